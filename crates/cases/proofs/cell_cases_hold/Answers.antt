-- The worked cases of the cell, each by computation.
use Rattle.std.proofs.Common.{refl}
use lib.Ieee.{add, of_int}
use Rattle.std.specs.Int.{int_wrap}
use Rattle.script.specs.Rows.{row_of}
use Rattle.script.specs.Shape.{consume}
use Rattle.syntax.specs.Trees.{forest}
use Rattle.machine.specs.Machine.{run}
use Rattle.machine.specs.Steps.{steps_made}
use Rattle.cases.proofs.cell_cases_hold.Goals as goal

pub returns : goal.returns
unfolding row_of forest consume int_wrap run steps_made add of_int
returns c = record {
  end_bay_code_length = refl;
  end_bay_words_wanted = refl;
  three_bays_marked = refl;
  more_steps_granted = refl;
  one_step_short = refl;
  in_two_pieces = refl;
  words_of_one_piece = refl;
  words_of_two_pieces = refl;
  one_fuel_short = refl;
  no_call_allowed = refl;
  one_bay_short = refl;
  one_word_short = refl;
  division_of_16_by_5 = refl;
  division_of_15_by_5 = refl;
  sum_wraps_at_counter = refl;
  sum_exact_at_rail = refl;
  two_into_occupancy_bay = refl;
}
