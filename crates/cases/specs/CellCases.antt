-- Worked cases of the cell: whole jobs on an unused cell, by the definitions of its calls.
use Rattle.std.specs.Prelude.{◌≡◌, ℕ, Bool, false, List, [], ◌∷◌, map, length, take, replicate, ℤ, pos, negsuc, Some, None, Ok, Err, Option, Result}
use Rattle.std.specs.Float.{fin}
use Rattle.kinds.specs.Kinds.{Kind}
use Rattle.kinds.specs.Counter.{counter}
use Rattle.kinds.specs.Rail.{rail}
use Rattle.racks.specs.Makes.{holds_bit, holds_length}
use Rattle.script.specs.declared.record.Record.{Record}
use Rattle.script.specs.declared.refusal.Refusal.{Refusal}
use Rattle.script.specs.declared.refusal.Refusal.TheVariants.{TooFewWords}
use Rattle.script.specs.declared.ending.Ending.{Ending}
use Rattle.script.specs.declared.ending.Ending.TheVariants.{Done, NoFuel, TooDeep, NoSuchBay, CannotHold}
use Rattle.script.specs.EndBay.{end_bay}
use Rattle.treerun.specs.Report.{Report}
use Rattle.treerun.specs.Cases.{division, every_word, largest_plus_one, two_into_bay}
use Rattle.cell.specs.declared.calls.Call.{Call}
use Rattle.cell.specs.declared.calls.Call.TheVariants.{Load, Compile, Arm, Run}
use Rattle.cell.specs.declared.calls.Answer.{Answer}
use Rattle.cell.specs.declared.calls.Answer.TheVariants.{Taken, Paused, Ended}
use Rattle.cell.specs.Outcomes.{World, unused, answers, outcomes, code_told, end_told, steps_told, words_wanted}
use Rattle.cell.specs.Promises.{seen}

-- ---- jobs

-- A job: a table is loaded, compiled and armed with fuel and depth, and then run, so many steps at a time.
-- (Where the reference to a lent table points, and under which name, does not matter.)
abbrev pub job : List Record → ℕ → ℕ → List ℕ → List Call
job table fuel depth runs =
    Load (record { ref_ptr = (0, 0); now = table }) ∷ Compile ∷ Arm (record { fuel = fuel; depth = depth }) ∷ map (λ n. Run n) runs

-- An unused cell with the words and bays that it is lent.
abbrev pub lent : {W : Type 0} → List W → List W → World W
lent words bays = record { cell = unused; words = words; bays = bays }

-- What is seen of a job: its answers; the steps told; and of a run that has ended ending, place, answer, globals, bays
-- and ticks.
pub record Seen (W : Type 0) : Type 0 where
  pub answers : List (Result Answer Refusal)
  pub steps : ℕ
  pub report : Option (Report W)

-- What is seen of calls made on a cell with what it is lent.
module _ {W : Type 0} (kind : Kind W) (holds : W → Bool) where
  abbrev pub seen_of : World W → List Call → Seen W
  seen_of w calls =
      let after = outcomes kind holds w calls in
      record {
        answers = answers kind holds w calls;
        steps = steps_told after.cell;
        report = seen kind holds after (end_told after.cell);
      }

-- So many words that hold nines.
abbrev pub nines : ℕ → List ℤ
nines n = replicate n (pos 9)

-- The end-bay table over so many words that hold nines, and so many zero bays that can hold every word.
abbrev pub end_bay_world : ℕ → ℕ → World ℤ
end_bay_world words bays = lent (nines words) (replicate bays (pos 0))

-- What is seen of a job on it.
abbrev pub end_bay_seen : ℕ → ℕ → ℕ → ℕ → List ℕ → Seen ℤ
end_bay_seen words bays fuel depth runs =
    seen_of counter every_word (end_bay_world words bays) (job end_bay fuel depth runs)

-- The same, as the world that the job leaves.
abbrev pub end_bay_left : List ℕ → World ℤ
end_bay_left runs = outcomes counter every_word (end_bay_world 7 3) (job end_bay 8 1 runs)

-- ---- what is seen

-- The three calls before the first run were taken.
abbrev pub taken_then : List (Result Answer Refusal) → List (Result Answer Refusal)
taken_then later = Ok Taken ∷ Ok Taken ∷ Ok Taken ∷ later

-- A run has ended in its first piece, after so many steps.
abbrev pub ends_at : {W : Type 0} → ℕ → Report W → Seen W
ends_at steps r = record {
  answers = taken_then (Ok (Ended (record { ending = r.ending; place = r.place })) ∷ []);
  steps = steps;
  report = Some r;
}

-- The report of a run that is done.
abbrev pub done : {W : Type 0} → W → List W → List W → ℕ → Report W
done answer globals bays ticks = record {
  ending = Done;
  place = 0;
  answer = Some answer;
  globals = globals;
  bays = bays;
  ticks = ticks;
}

-- The report of a run that was cut short at a place.
abbrev pub cut_short : {W : Type 0} → Ending → ℕ → List W → List W → ℕ → Report W
cut_short ending place globals bays ticks = record {
  ending = ending;
  place = place;
  answer = None;
  globals = globals;
  bays = bays;
  ticks = ticks;
}

-- The end-bay table has marked its three bays: its global is 4, its answer 0, and it has spent 8 fuel.
abbrev pub three_marked_bays : Report ℤ
three_marked_bays = done (pos 0) (pos 4 ∷ []) (replicate 3 (pos 1)) 8

-- The words that it leaves: its global, its answer, and what was popped from the stack; the last was never used.
abbrev pub end_bay_words : List ℤ
end_bay_words = pos 4 ∷ pos 0 ∷ pos 3 ∷ pos 0 ∷ pos 1 ∷ pos 9 ∷ pos 9 ∷ []

-- ---- the cases

pub record CellCases : Type 0 where
  -- The end-bay table has 25 instructions, and at depth 1 wants 7 words.
  pub end_bay_code_length : length (code_told (end_bay_left []).cell) ≡ 25
  pub end_bay_words_wanted : words_wanted 1 (end_bay_left []).cell ≡ 7
  -- Three zero bays, fuel 8, depth 1: all are marked, in 87 steps. More steps granted make no more.
  pub three_bays_marked : end_bay_seen 7 3 8 1 (87 ∷ []) ≡ ends_at 87 three_marked_bays
  pub more_steps_granted : end_bay_seen 7 3 8 1 (1000 ∷ []) ≡ ends_at 87 three_marked_bays
  -- 86 steps pause; 40 and then 47 end it, and leave the words that 87 at once leave.
  pub one_step_short : end_bay_seen 7 3 8 1 (86 ∷ []) ≡ record {
    answers = taken_then (Ok Paused ∷ []);
    steps = 86;
    report = None;
  }
  pub in_two_pieces : end_bay_seen 7 3 8 1 (40 ∷ 47 ∷ []) ≡ record {
    answers = taken_then (Ok Paused ∷ Ok (Ended (record { ending = Done; place = 0 })) ∷ []);
    steps = 87;
    report = Some three_marked_bays;
  }
  pub words_of_one_piece : (end_bay_left (87 ∷ [])).words ≡ end_bay_words
  pub words_of_two_pieces : (end_bay_left (40 ∷ 47 ∷ [])).words ≡ end_bay_words
  -- One fuel short: the last call finds none.
  pub one_fuel_short : end_bay_seen 7 3 7 1 (1000 ∷ [])
      ≡ ends_at 73 (cut_short NoFuel 14 (pos 3 ∷ []) (replicate 3 (pos 1)) 7)
  -- No call allowed, with fuel 1: the depth is tested before the fuel, which the while has spent.
  pub no_call_allowed : end_bay_seen 4 3 1 0 (1000 ∷ [])
      ≡ ends_at 4 (cut_short TooDeep 14 (pos 0 ∷ []) (replicate 3 (pos 0)) 1)
  -- One bay short: there is none for the third mark.
  pub one_bay_short : end_bay_seen 7 2 8 1 (1000 ∷ [])
      ≡ ends_at 67 (cut_short NoSuchBay 16 (pos 3 ∷ []) (replicate 2 (pos 1)) 6)
  -- One word short: the arm is refused, and tells the 7 words that it wants. So a run is not taken either.
  pub one_word_short : take 3 (end_bay_seen 6 3 8 1 []).answers ≡ Ok Taken ∷ Ok Taken ∷ Err (TooFewWords 7) ∷ []
  -- Division by repeated difference counts while the first number is the greater.
  pub division_of_16_by_5 :
      seen_of counter every_word (lent (nines 11) []) (job (division 16 5) 100 1 (1000 ∷ []))
      ≡ ends_at 69 (done (pos 3) (pos 3 ∷ []) [] 5)
  pub division_of_15_by_5 :
      seen_of counter every_word (lent (nines 11) []) (job (division 15 5) 100 1 (1000 ∷ []))
      ≡ ends_at 51 (done (pos 2) (pos 2 ∷ []) [] 4)
  -- 2147483647 + 1 wraps to -2147483648 at the counter kind, and is 2147483648, 1 times 2 to the 31, at the rail kind.
  pub sum_wraps_at_counter :
      seen_of counter every_word (lent (nines 2) []) (job largest_plus_one 0 0 (1000 ∷ []))
      ≡ ends_at 4 (done (negsuc 2147483647) [] [] 0)
  pub sum_exact_at_rail :
      seen_of rail holds_length (lent (replicate 2 (fin false 9 (pos 0))) []) (job largest_plus_one 0 0 (1000 ∷ []))
      ≡ ends_at 4 (done (fin false 1 (pos 31)) [] [] 0)
  -- An occupancy bay cannot hold 2, and stays as it was.
  pub two_into_occupancy_bay :
      seen_of counter holds_bit (lent (nines 2) (pos 0 ∷ [])) (job two_into_bay 0 0 (1000 ∷ []))
      ≡ ends_at 3 (cut_short CannotHold 2 [] (pos 0 ∷ []) 0)
