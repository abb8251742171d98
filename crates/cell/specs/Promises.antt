-- What is promised of every list of calls, made from an unused cell on.
use Rattle.std.specs.Prelude.{◌≡◌, ℕ, ◌+◌, ◌-◌, ◌*◌, ◌^◌, ◌<◌, ◌≤◌, Bool, List, [], ◌∷◌, length, take, Some, None, Ok, Err, Option, Result, slice_index_or}
use Rattle.kinds.specs.Kinds.{Kind}
use Rattle.kinds.specs.Words.{zero_word}
use Rattle.script.specs.declared.record.Record.{Record}
use Rattle.script.specs.declared.refusal.Refusal.{Refusal}
use Rattle.syntax.specs.Typed.{program_of}
use Rattle.treerun.specs.Report.{Report, report_of}
use Rattle.script.specs.declared.ending.RunEnd.{RunEnd}
use Rattle.agreement.specs.Agreement.{answer_at}
use Rattle.cell.specs.declared.calls.State.TheVariants.{Empty, Over}
use Rattle.cell.specs.declared.calls.Call.{Call}
use Rattle.cell.specs.declared.calls.Call.TheVariants.{Load, Compile, Arm, Run, Stop}
use Rattle.cell.specs.declared.calls.Answer.{Answer}
use Rattle.cell.specs.Outcomes.{World, answer, answers, outcome, outcomes, ran_of, in_run, code_told, globals_told, ticks_told, steps_told, end_told}

-- ---- what is noted of the calls and their answers, without a look into the cell

-- Of an arm taken: its fuel and depth, the bays as they stood there, and the steps that runs taken since were granted.
pub record Armed (W : Type 0) : Type 0 where
  pub fuel : ℕ
  pub depth : ℕ
  pub bays : List W
  pub granted : ℕ

-- The table last loaded, the table that the code was made from, and the last arm taken, unless its run was stopped or
-- another table loaded since.
pub record Notes (W : Type 0) : Type 0 where
  pub loaded : List Record
  pub coded : List Record
  pub armed : Option (Armed W)

module _ {W : Type 0} where
  -- Of no call there is nothing to note.
  abbrev pub nothing : Notes W
  nothing = record { loaded = []; coded = []; armed = None }

  -- More steps granted to the run of the last arm, where there is one.
  abbrev pub grant : ℕ → Option (Armed W) → Option (Armed W)
  grant steps None = None
  grant steps (Some a) =
      Some (record { fuel = a.fuel; depth = a.depth; bays = a.bays; granted = a.granted + steps })

  -- What a call that was taken, with the bays as they stood, adds to the notes.
  abbrev pub note_taken : Notes W → List W → Call → Notes W
  note_taken n bays (Load table) = record { loaded = table.now; coded = n.coded; armed = None }
  note_taken n bays Compile = record { loaded = n.loaded; coded = n.loaded; armed = n.armed }
  note_taken n bays (Arm limits) = record {
    loaded = n.loaded;
    coded = n.coded;
    armed = Some (record { fuel = limits.fuel; depth = limits.depth; bays = bays; granted = 0 });
  }
  note_taken n bays (Run steps) = record { loaded = n.loaded; coded = n.coded; armed = grant steps n.armed }
  note_taken n bays Stop = record { loaded = n.loaded; coded = n.coded; armed = None }

  -- A refused call adds nothing.
  abbrev pub note : Notes W → List W → Call → Result Answer Refusal → Notes W
  note n bays c (Ok a) = note_taken n bays c
  note n bays c (Err e) = n

-- ---- the promises

module _ {W : Type 0} (kind : Kind W) (holds : W → Bool) where
  -- The notes of calls that are made one after another.
  abbrev pub notes_from : Notes W → World W → List Call → Notes W
  notes_from n w [] = n
  notes_from n w (c ∷ calls) = notes_from (note n w.bays c (answer kind holds w c)) (outcome kind holds w c) calls

  -- What is seen of a run that has ended: its globals are words 0 to g - 1, its answer, if it is done, word g.
  abbrev pub seen : World W → Option RunEnd → Option (Report W)
  seen w None = None
  seen w (Some e) =
      let g = globals_told w.cell in
      Some (record {
        ending = e.ending;
        place = e.place;
        answer = answer_at e.ending (slice_index_or w.words g (zero_word kind));
        globals = take g w.words;
        bays = w.bays;
        ticks = ticks_told w.cell;
      })

  -- The report of the tree run of the table that the code was made from, with fuel, depth and bays of the arm.
  abbrev pub tree_run : Notes W → Armed W → Report W
  tree_run n a = report_of kind holds (program_of n.coded) a.bays a.fuel a.depth

  -- With the notes of the calls made, what they left keeps the promises.
  pub record Kept (n : Notes W) (w : World W) : Type 0 where
    -- A run that has ended agrees with the tree run in ending, place, answer, globals, bays and ticks.
    pub ended_runs_agree :
        w.cell.state ≡ Over
        → (a : Armed W) × (n.armed ≡ Some a) × (seen w (end_told w.cell) ≡ Some (tree_run n a))
    -- No run makes more than (ticks + 1) × code length steps.
    pub steps_are_bounded : steps_told w.cell ≤ (ticks_told w.cell + 1) * length (code_told w.cell)
    -- A run not stopped that was granted (fuel + 1) × code length steps in all since its arm has ended.
    pub enough_steps_end_it :
        (a : Armed W) → n.armed ≡ Some a → (a.fuel + 1) * length (code_told w.cell) ≤ a.granted
        → w.cell.state ≡ Over

  -- How many steps have been made since the last arm taken, with one call more that is taken: a run adds those that the
  -- machine makes of it.
  abbrev pub made_by : World W → Call → ℕ → ℕ
  made_by w (Load table) made = made
  made_by w Compile made = made
  made_by w (Arm limits) made = 0
  made_by w (Run steps) made = made + (ran_of kind holds steps w).made
  made_by w Stop made = made

  abbrev pub made_after : World W → Call → Result Answer Refusal → ℕ → ℕ
  made_after w c (Ok a) made = made_by w c made
  made_after w c (Err e) made = made

  -- The same of calls that are made one after another, told or not and however many.
  abbrev pub made_from : ℕ → World W → List Call → ℕ
  made_from made w [] = made
  made_from made w (c ∷ calls) =
      made_from (made_after w c (answer kind holds w c) made) (outcome kind holds w c) calls

  -- The steps told of a run are those made since its arm, so the count never stays at the largest number of 32 bits:
  -- it is below that.
  pub record Counted (made : ℕ) (w : World W) : Type 0 where
    pub all_are_told : steps_told w.cell ≡ in_run w.cell.state made
    pub below_the_largest : steps_told w.cell < 2 ^ 32 - 1

  -- What a list of calls made on an unused cell leaves, whatever words and bays it is lent, keeps the promises.
  pub record KeptFrom (before : World W) (calls : List Call) (after : World W) : Type 0 where
    pub kept : Kept (notes_from nothing before calls) after
    pub counted : Counted (made_from 0 before calls) after

  -- Every list of calls keeps them.
  abbrev pub Promises : Type 0
  Promises =
      (w : World W) → w.cell.state ≡ Empty → (calls : List Call) → KeptFrom w calls (outcomes kind holds w calls)

  -- ---- what is said of a call, and of a list of calls, that were made

  -- One call, with its answer, from one world to another.
  pub record Made (before : World W) (c : Call) (given : Result Answer Refusal) (after : World W) : Type 0 where
    pub answers_so : given ≡ answer kind holds before c
    pub leaves : after ≡ outcome kind holds before c

  -- A list of calls: answers and what is left are those of the calls one by one, and from an unused cell the promises
  -- are kept.
  pub record Performed (before : World W) (calls : List Call) (given : List (Result Answer Refusal)) (after : World W)
      : Type 0 where
    pub answers_so : given ≡ answers kind holds before calls
    pub leaves : after ≡ outcomes kind holds before calls
    pub keeps : before.cell.state ≡ Empty → KeptFrom before calls after
