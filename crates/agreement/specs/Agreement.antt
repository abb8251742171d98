-- What it means that the machine's run of a program's code agrees with the tree run of the program.
use Rattle.std.specs.Prelude.{◌≡◌, ℕ, suc, ◌+◌, ◌-◌, ◌*◌, ◌<◌, ◌≤◌, Bool, List, length, take, Some, None, Option}
use Rattle.kinds.specs.Kinds.{Kind}
use Rattle.script.specs.declared.ending.Ending.{Ending}
use Rattle.script.specs.declared.ending.Ending.TheVariants.{Done, NoFuel, TooDeep, NoSuchBay, CannotHold}
use Rattle.syntax.specs.Syntax.{Program}
use Rattle.names.specs.Need.{largest_need}
use Rattle.names.specs.Scoped.{WellNamed}
use Rattle.treerun.specs.TreeRun.{run_program, unbound}
use Rattle.treerun.specs.Report.{Report, report as tree_report}
use Rattle.code.specs.Scheme.{program_code, function_entries, global_numbers, global_count}
use Rattle.machine.specs.Machine.{Image, MachineState, running, over, word_at, run, armed}

-- ---- the machine's run

-- Only a run that is done has an answer.
abbrev pub answer_at : {W : Type 0} → Ending → W → Option W
answer_at Done w = Some w
answer_at NoFuel w = None
answer_at TooDeep w = None
answer_at NoSuchBay w = None
answer_at CannotHold w = None

-- Its answer is word g, its globals are words 0 to g - 1.
abbrev pub machine_report : {W : Type 0} → Image W → ℕ → Ending → ℕ → MachineState W → Report W
machine_report I fuel ending place m = record {
  ending = ending;
  place = place;
  answer = answer_at ending (word_at I m I.globals);
  globals = take I.globals m.store;
  bays = m.bays;
  ticks = fuel - m.fuel;
}

-- After n steps from m the machine still runs, and n is at most (ticks + 1) × the length of the code.
pub record StillRuns {W : Type 0} (I : Image W) (m : MachineState W) (n : ℕ) : Type 0 where
  pub state : MachineState W
  pub runs : run I n m ≡ running state
  pub spent : state.fuel ≤ m.fuel
  pub bounded : n ≤ (m.fuel - state.fuel + 1) * length I.code

-- The machine's run from m ends, and this is its report: for `steps` steps it still runs, never undefined; the next
-- instruction ends it; and then too the steps are at most (ticks + 1) × the length of the code.
pub record Ends {W : Type 0} (I : Image W) (m : MachineState W) (r : Report W) : Type 0 where
  pub steps : ℕ
  pub final : MachineState W
  pub before : (n : ℕ) → n ≤ steps → StillRuns I m n
  pub after : (n : ℕ) → steps < n → run I n m ≡ over r.ending r.place final
  pub report : machine_report I m.fuel r.ending r.place final ≡ r
  pub spent : final.fuel ≤ m.fuel
  pub bounded : suc steps ≤ (r.ticks + 1) * length I.code

-- ---- the agreement

-- What the machine runs a program on.
abbrev pub program_image : {W : Type 0} → Kind W → (W → Bool) → Program → ℕ → Image W
program_image kind holds p depth = record {
  kind = kind;
  holds = holds;
  code = program_code p;
  entries = function_entries p;
  depth = depth;
  globals = global_count p;
}

-- At a number kind and for bays that can hold some words: of every program whose names are in order, armed with any
-- depth and fuel over a store of at least g + (depth + 1) × M words, whatever it holds, and any bays, the machine's run
-- ends with the report of the tree run, which has the same fuel, depth and bays and any lists to bind in.
abbrev pub Agreement : {W : Type 0} → Kind W → (W → Bool) → Type 0
Agreement {W} kind holds =
    (p : Program) → WellNamed p → (depth fuel : ℕ) (store bays : List W)
    → global_count p + (depth + 1) * largest_need p ≤ length store
    → (names : List ℕ) (words : List W)
    → Ends (program_image kind holds p depth)
    (armed (program_image kind holds p depth) (global_numbers p) store bays fuel)
    (tree_report (global_count p) fuel (run_program kind holds p depth (unbound names words bays fuel)))
