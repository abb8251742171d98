-- What a walk answers, and what names, words and bays then hold.
use Rattle.std.specs.Prelude.{ℕ, ◌-◌, ◌&&◌, List, length, ℤ, Some, None, Ok, Err, Result, nat_le}
use mathlib.Core.List.{reverse_aux}
use Rattle.kinds.specs.Counter.{counter}
use Rattle.script.specs.declared.record.Record.{Record}
use Rattle.script.specs.declared.refusal.Refusal.{Refusal}
use Rattle.script.specs.declared.refusal.Refusal.TheVariants.{FuelOrDepth, TooFewWords}
use Rattle.script.specs.declared.ending.Ending.TheVariants.{Done}
use Rattle.script.specs.declared.ending.RunEnd.{RunEnd}
use Rattle.script.specs.Sequence.{and_then}
use Rattle.script.specs.Limits.{within_limits, words_wanted}
use Rattle.script.specs.Refusals.{unless}
use Rattle.syntax.specs.Syntax.{Program, globals_of}
use Rattle.syntax.specs.Typed.{program_of}
use Rattle.names.specs.Need.{largest_need}
use Rattle.names.specs.Names.{Answer, ◌⨟◌}
use Rattle.names.specs.Tables.{table_rules}
use Rattle.treerun.specs.TreeRun.{Outcome, value, returned, ended, run_program, unbound}
use Rattle.treerun.specs.Laws.{state_left}
use Rattle.walk.specs.declared.report.Report.{Report}
use Rattle.walk.specs.declared.state.Stop.{Stop}
use Rattle.walk.specs.declared.state.Stop.TheVariants.{Returned, Ended}
use Rattle.walk.specs.declared.state.Valued.{Valued}
use Rattle.walk.specs.Lent.{every}

-- How many elements each slice must have: the globals, and a largest frame for each call open at once and for main.
abbrev pub room_for : Program → ℕ → ℕ
room_for p depth = words_wanted (length (globals_of p)) (largest_need p) depth

-- Why a walk is refused, in this order: the table's shape and names, fuel and depth, and slices that are too short.
abbrev pub walk_rules : List Record → ℕ → ℕ → ℕ → ℕ → Answer
walk_rules table names words fuel depth =
    and_then (table_rules table) (λ s.
    unless (within_limits (record { fuel = fuel; depth = depth })) FuelOrDepth
    ⨟ unless (nat_le (room_for (program_of table) depth) names && nat_le (room_for (program_of table) depth) words)
    (TooFewWords (room_for (program_of table) depth)))

-- How a run that is done has ended.
abbrev pub done : RunEnd
done = record { ending = Done; place = 0 }

-- What is told of a run that was granted so much fuel. A value and a returned word are the answer of a run that is done.
abbrev pub told : ℕ → Outcome ℤ ℤ → Report
told granted (value w σ) = record { end = done; answer = Some w; ticks = granted - σ.fuel }
told granted (returned w σ) = record { end = done; answer = Some w; ticks = granted - σ.fuel }
told granted (ended e place σ) =
    record { end = record { ending = e; place = place }; answer = None; ticks = granted - σ.fuel }

-- What a walk answers, and what the two slices and the bays hold afterwards.
pub record Walked : Type 0 where
  pub answer : Result Report Refusal
  pub names : List ℕ
  pub words : List ℤ
  pub bays : List ℤ

abbrev pub leaves : Result Report Refusal → List ℕ → List ℤ → List ℤ → Walked
leaves answer names words bays = record { answer = answer; names = names; words = words; bays = bays }

-- A run leaves in each slice its bindings, oldest first, and behind them what dropped ones have left.
abbrev pub walked_by : ℕ → Outcome ℤ ℤ → Walked
walked_by granted o =
    leaves (Ok (told granted o)) (reverse_aux (state_left o).names (state_left o).past_names)
    (reverse_aux (state_left o).words (state_left o).past_words) (state_left o).bays

-- A refused walk leaves everything as it was; otherwise it is the tree run at the counter kind.
abbrev pub walked_if : Answer → List ℕ → List ℤ → List ℤ → ℕ → Outcome ℤ ℤ → Walked
walked_if (Ok u) names words bays fuel o = walked_by fuel o
walked_if (Err e) names words bays fuel o = leaves (Err e) names words bays

-- The walk of a table over two slices and bays, with a fuel and a depth.
abbrev pub walked : List Record → List ℕ → List ℤ → List ℤ → ℕ → ℕ → Walked
walked table names words bays fuel depth =
    walked_if (walk_rules table (length names) (length words) fuel depth) names words bays fuel
    (run_program counter every (program_of table) depth (unbound names words bays fuel))

-- The report on what the code of a run answers.
abbrev pub report_on : Result Valued Stop → ℕ → Report
report_on (Ok v) ticks = record { end = done; answer = Some v.word; ticks = ticks }
report_on (Err (Returned w)) ticks = record { end = done; answer = Some w; ticks = ticks }
report_on (Err (Ended e)) ticks = record { end = e; answer = None; ticks = ticks }
