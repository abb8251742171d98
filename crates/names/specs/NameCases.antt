-- Worked cases of the rules for names, about their definitions.
use Rattle.std.specs.Prelude.{◌≡◌, ℕ, zero, suc, List, [], ◌∷◌, ◌++◌, Ok, Err}
use Rattle.script.specs.declared.record.Record.{Record}
use Rattle.script.specs.Refusals.{RefusedWith}
use Rattle.script.specs.EndBay.{end_bay, node}
use Rattle.names.specs.Tables.{table_rules}

-- A table that is refused with this number, telling this.
abbrev pub Refused : List Record → ℕ → ℕ → Type 0
Refused table n told = RefusedWith (table_rules table) n told

-- A table that is accepted, with this largest frame need.
abbrev pub Accepted : List Record → ℕ → Type 0
Accepted table need = elim (table_rules table) [ Ok s ↦ s.need ≡ need | Err e ↦ ⊥ ]

-- A program of some declarations and its statement.
abbrev pub program : ℕ → List Record → List Record
program declarations rest = node 27 declarations 0 ∷ rest

-- A statement that does nothing: a number.
abbrev pub idle : List Record
idle = node 16 0 0 ∷ node 1 0 0 ∷ []

-- The declarations of n variables, named from one name on.
abbrev pub variables : ℕ → ℕ → List Record
variables x zero = []
variables x (suc n) = node 24 x 0 ∷ variables (suc x) n

-- A block of so many locals in another.
abbrev pub nested_blocks : ℕ → ℕ → List Record
nested_blocks outer inner = node 20 outer 1 ∷ (variables 0 outer ++ (node 20 inner 0 ∷ variables outer inner))

pub record NameCases : Type 0 where
  -- the end-bay table, whose largest frame need is 3
  pub end_bay_is_accepted : Accepted end_bay 3
  -- two global variables of one name: the second is told
  pub global_repeated : Refused (program 2 (node 24 7 0 ∷ node 24 7 0 ∷ idle)) 5 2
  -- two functions of one name
  pub function_repeated : Refused (program 2 (node 25 7 0 ∷ (idle ++ (node 25 7 0 ∷ (idle ++ idle))))) 5 4
  -- a variable and a function of one name
  pub variable_and_function_of_one_name : Accepted (program 2 (node 24 7 0 ∷ node 25 7 0 ∷ (idle ++ idle))) 1
  -- the global declarations come first: a variable undeclared in an earlier record than a global declared twice
  pub global_repeated_after_undeclared_variable :
      Refused (program 3 (node 25 0 0 ∷ node 16 0 0 ∷ node 2 9 0 ∷ node 24 7 0 ∷ node 24 7 0 ∷ idle)) 5 5
  -- a local that repeats a global, a local of its own block, or one of an enclosing block
  pub local_repeats_global : Refused (program 1 (node 24 7 0 ∷ node 20 1 0 ∷ node 24 7 0 ∷ [])) 5 3
  pub local_repeats_local : Refused (program 0 (node 20 2 0 ∷ node 24 7 0 ∷ node 24 7 0 ∷ [])) 5 3
  pub local_repeats_enclosing_local : Refused (program 0 (node 20 1 1 ∷ node 24 7 0 ∷ node 20 1 0 ∷ node 24 7 0 ∷ []))
      5 4
  -- a parameter that repeats a global or an earlier parameter, and a local that repeats a parameter
  pub parameter_repeats_global : Refused (program 2 (node 25 0 1 ∷ node 26 7 0 ∷ (idle ++ (node 24 7 0 ∷ idle)))) 5 2
  pub parameter_repeats_parameter : Refused (program 1 (node 25 0 2 ∷ node 26 7 0 ∷ node 26 7 0 ∷ (idle ++ idle))) 5 3
  pub local_repeats_parameter : Refused (program 1 (node 25 0 1 ∷ node 26 7 0 ∷ node 20 1 0 ∷ node 24 7 0 ∷ idle)) 5 4
  -- a name again in the block beside the one that declared it
  pub name_again_in_sibling_block :
      Accepted (program 0 (node 20 0 2 ∷ node 20 1 0 ∷ node 24 7 0 ∷ node 20 1 0 ∷ node 24 7 0 ∷ [])) 1
  -- a local used after its block
  pub local_used_after_its_block :
      Refused (program 0 (node 20 0 2 ∷ node 20 1 0 ∷ node 24 7 0 ∷ node 16 0 0 ∷ node 2 7 0 ∷ [])) 6 5
  -- a call of a function that is declared later
  pub call_of_later_function :
      Accepted (program 2 (node 25 0 0 ∷ node 16 0 0 ∷ node 7 1 0 ∷ node 25 1 0 ∷ (idle ++ idle))) 1
  -- variables, assignments and functions that are not declared
  pub undeclared_variable : Refused (program 0 (node 16 0 0 ∷ node 2 9 0 ∷ [])) 6 2
  pub undeclared_assignment : Refused (program 0 (node 16 0 0 ∷ node 6 9 0 ∷ node 1 0 0 ∷ [])) 6 2
  pub undeclared_function : Refused (program 1 (node 24 9 0 ∷ node 16 0 0 ∷ node 7 9 0 ∷ [])) 6 3
  -- calls with an argument too many and one too few: the call is told, before its arguments are checked
  pub too_many_arguments : Refused (program 1 (node 25 0 0 ∷ (idle ++ (node 16 0 0 ∷ node 7 0 1 ∷ node 2 9 0 ∷ []))))
      7 5
  pub too_few_arguments : Refused (program 1 (node 25 0 1 ∷ node 26 7 0 ∷ (idle ++ (node 16 0 0 ∷ node 7 0 0 ∷ []))))
      7 6
  -- a frame of 100 words, and one of 101
  pub frame_of_100_words : Accepted (program 0 (nested_blocks 63 37)) 100
  pub frame_of_101_words : Refused (program 0 (nested_blocks 63 38)) 8 0
