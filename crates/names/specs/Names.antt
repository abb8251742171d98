-- The rules for names, with the refusal that each gives: the first one broken, in the order of the checks.
use Rattle.std.specs.Prelude.{ℕ, suc, Bool, true, false, cond, not, ◌||◌, List, [], ◌∷◌, ◌++◌, map, reverse, length, is_some, Ok, Err, Result, ◌==◌, nat_le}
use Rattle.script.specs.declared.refusal.Refusal.{Refusal}
use Rattle.script.specs.declared.refusal.Refusal.TheVariants.{DeclaredTwice, Undeclared, ArgumentCount, FrameNeed}
use Rattle.script.specs.Refusals.{unless}
use Rattle.syntax.specs.Syntax.{VariableDeclaration, declare, Expression, constant, variable, binary, assign, call}
use Rattle.syntax.specs.Syntax.{bay_read, bay_write, Arguments, no_argument, argument, Statement, evaluate, if_else}
use Rattle.syntax.specs.Syntax.{while, give_back, block, Statements, no_statement, then, Function, Declaration}
use Rattle.syntax.specs.Syntax.{of_a_variable, of_a_function, Program, bind_names, argument_count, locate, functions_of}
use Rattle.syntax.specs.Syntax.{global_names}
use Rattle.names.specs.declared.signature.Signature.{Signature}
use Rattle.names.specs.Need.{largest_need}

infixr 40 ◌⨟◌
-- What a rule answers: it is met, or why it is not.
abbrev pub Answer : Type 0
Answer = Result (Unit {0}) Refusal

-- One rule after another: the first refusal stands.
abbrev pub ◌⨟◌ : Answer → Answer → Answer
Ok u ⨟ next = next
Err e ⨟ next = Err e

-- What a check finds of a function.
abbrev pub signature : Function → Signature
signature f = record { name = f.name; count = length f.parameters; place = f.place }

-- Is there a function of a name.
abbrev pub is_function : ℕ → List Signature → Bool
is_function x [] = false
is_function x (f ∷ fs) = cond (x == f.name) true (is_function x fs)

-- The global declarations in order: a variable differs from the variables before it (newest first), a function from
-- the functions before it.
abbrev pub global_rules : List Declaration → List ℕ → List Signature → Answer
global_rules [] variables functions = Ok tt
global_rules (of_a_variable (declare a x v) ∷ ds) variables functions =
    unless (not (is_some (locate x variables))) (DeclaredTwice a) ⨟ global_rules ds (x ∷ variables) functions
global_rules (of_a_function f ∷ ds) variables functions =
    unless (not (is_function f.name functions)) (DeclaredTwice f.place)
    ⨟ global_rules ds variables (functions ++ signature f ∷ [])

-- A call at a place: its function is declared, and takes that many arguments.
abbrev pub call_rule : ℕ → List Signature → ℕ → ℕ → Answer
call_rule x [] count place = Err (Undeclared place)
call_rule x (f ∷ fs) count place =
    cond (x == f.name) (unless (count == f.count) (ArgumentCount place)) (call_rule x fs count place)

-- Then all records in prefix order, under the global names; `own` are the names of the function, newest first.
module _ (globals : List ℕ) where
  -- Is a name one of the function's or of the globals'.
  abbrev pub declared : ℕ → List ℕ → Bool
  declared x own = is_some (locate x own) || is_some (locate x globals)

  -- Locals, one after another.
  abbrev pub local_rules : List VariableDeclaration → List ℕ → Answer
  local_rules [] own = Ok tt
  local_rules (declare a x v ∷ ds) own = unless (not (declared x own)) (DeclaredTwice a) ⨟ local_rules ds (x ∷ own)

  -- Parameters, one after another, their records from a place on.
  abbrev pub parameter_rules : List ℕ → ℕ → List ℕ → Answer
  parameter_rules [] place own = Ok tt
  parameter_rules (x ∷ xs) place own =
      unless (not (declared x own)) (DeclaredTwice place) ⨟ parameter_rules xs (suc place) (x ∷ own)

  module _ (functions : List Signature) where
    abbrev mutual
      pub expression_rules : Expression → List ℕ → Answer
      expression_rules (constant a v) own = Ok tt
      expression_rules (variable a x) own = unless (declared x own) (Undeclared a)
      expression_rules (binary a o e f) own = expression_rules e own ⨟ expression_rules f own
      expression_rules (assign a x e) own = unless (declared x own) (Undeclared a) ⨟ expression_rules e own
      expression_rules (call a f es) own = call_rule f functions (argument_count es) a ⨟ argument_rules es own
      expression_rules (bay_read a e) own = expression_rules e own
      expression_rules (bay_write a e f) own = expression_rules e own ⨟ expression_rules f own

      pub argument_rules : Arguments → List ℕ → Answer
      argument_rules no_argument own = Ok tt
      argument_rules (argument e es) own = expression_rules e own ⨟ argument_rules es own

    abbrev mutual
      pub statement_rules : Statement → List ℕ → Answer
      statement_rules (evaluate a e) own = expression_rules e own
      statement_rules (if_else a e s t) own = expression_rules e own ⨟ statement_rules s own ⨟ statement_rules t own
      statement_rules (while a e s) own = expression_rules e own ⨟ statement_rules s own
      statement_rules (give_back a e) own = expression_rules e own
      statement_rules (block a ds ss) own = local_rules ds own ⨟ block_rules ss (bind_names ds own)

      pub block_rules : Statements → List ℕ → Answer
      block_rules no_statement own = Ok tt
      block_rules (then s ss) own = statement_rules s own ⨟ block_rules ss own

    -- The functions, one after another: parameters, then body.
    abbrev pub function_rules : List Function → Answer
    function_rules [] = Ok tt
    function_rules (f ∷ fs) =
        parameter_rules f.parameters (suc f.place) []
        ⨟ statement_rules f.body (reverse f.parameters) ⨟ function_rules fs

-- A whole program: the global declarations, then all records, then the frame need.
abbrev pub name_rules : Program → Answer
name_rules p =
    let functions = functions_of p.declarations in
    let signatures = map signature functions in
    global_rules p.declarations [] []
    ⨟ function_rules (global_names p) signatures functions
    ⨟ statement_rules (global_names p) signatures p.main []
    ⨟ unless (nat_le (largest_need p) 100) FrameNeed
