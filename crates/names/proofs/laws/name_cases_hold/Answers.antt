use Rattle.std.proofs.Common.{refl}
use Rattle.script.specs.Rows.{row_of}
use Rattle.script.specs.Shape.{consume}
use Rattle.syntax.specs.Trees.{forest}
use Rattle.names.proofs.laws.name_cases_hold.Goals as goal

pub returns : goal.returns
unfolding forest row_of consume
returns c = record {
  end_bay_is_accepted = refl;
  global_repeated = (refl, refl);
  function_repeated = (refl, refl);
  variable_and_function_of_one_name = refl;
  global_repeated_after_undeclared_variable = (refl, refl);
  local_repeats_global = (refl, refl);
  local_repeats_local = (refl, refl);
  local_repeats_enclosing_local = (refl, refl);
  parameter_repeats_global = (refl, refl);
  parameter_repeats_parameter = (refl, refl);
  local_repeats_parameter = (refl, refl);
  name_again_in_sibling_block = refl;
  local_used_after_its_block = (refl, refl);
  call_of_later_function = refl;
  undeclared_variable = (refl, refl);
  undeclared_assignment = (refl, refl);
  undeclared_function = (refl, refl);
  too_many_arguments = (refl, refl);
  too_few_arguments = (refl, refl);
  frame_of_100_words = refl;
  frame_of_101_words = (refl, refl);
}
