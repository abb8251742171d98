-- A program whose names are in order, in words of its own: which names differ, and which are declared where they are used.
use Rattle.std.specs.Prelude.{◌≡◌, ℕ, ◌≤◌, ◌⊎◌, List, [], ◌∷◌, map, reverse, length, Some, None, Option}
use Rattle.syntax.specs.Syntax.{Expression, constant, variable, binary, assign, call, bay_read, bay_write, Arguments}
use Rattle.syntax.specs.Syntax.{no_argument, argument, Statement, evaluate, if_else, while, give_back, block}
use Rattle.syntax.specs.Syntax.{Statements, no_statement, then, Function, Program, name_of, bind_names, argument_count}
use Rattle.syntax.specs.Syntax.{function_named, functions_of, globals_of, global_names}
use Rattle.names.specs.Need.{largest_need}

-- A name is one of some names.
abbrev pub Member : ℕ → List ℕ → Type 0
Member x [] = ⊥
Member x (y ∷ ys) = (x ≡ y) ⊎ Member x ys

-- No name is there twice.
abbrev pub Distinct : List ℕ → Type 0
Distinct [] = Unit {0}
Distinct (x ∷ xs) = (Member x xs → ⊥) × Distinct xs

-- A call has as many arguments as its function has parameters, and there is such a function.
abbrev pub Takes : Option Function → ℕ → Type 0
Takes None count = ⊥
Takes (Some f) count = length f.parameters ≡ count

-- Under the global names: `own` are the names of the function, parameters and locals of the blocks around, newest first.
module _ (globals : List ℕ) where
  -- A name that is used is one of the function's own or a global.
  abbrev pub Known : ℕ → List ℕ → Type 0
  Known x own = Member x own ⊎ Member x globals

  -- A name that is declared is neither.
  abbrev pub Fresh : ℕ → List ℕ → Type 0
  Fresh x own = Known x own → ⊥

  -- Names declared one after another.
  abbrev pub AllFresh : List ℕ → List ℕ → Type 0
  AllFresh [] own = Unit {0}
  AllFresh (x ∷ xs) own = Fresh x own × AllFresh xs (x ∷ own)

  module _ (functions : List Function) where
    abbrev mutual
      pub ScopedExpression : Expression → List ℕ → Type 0
      ScopedExpression (constant a v) own = Unit {0}
      ScopedExpression (variable a x) own = Known x own
      ScopedExpression (binary a o e f) own = ScopedExpression e own × ScopedExpression f own
      ScopedExpression (assign a x e) own = Known x own × ScopedExpression e own
      ScopedExpression (call a f es) own = Takes (function_named f functions) (argument_count es) × ScopedArguments es own
      ScopedExpression (bay_read a e) own = ScopedExpression e own
      ScopedExpression (bay_write a e f) own = ScopedExpression e own × ScopedExpression f own

      pub ScopedArguments : Arguments → List ℕ → Type 0
      ScopedArguments no_argument own = Unit {0}
      ScopedArguments (argument e es) own = ScopedExpression e own × ScopedArguments es own

    abbrev mutual
      pub ScopedStatement : Statement → List ℕ → Type 0
      ScopedStatement (evaluate a e) own = ScopedExpression e own
      ScopedStatement (if_else a e s t) own =
          ScopedExpression e own × (ScopedStatement s own × ScopedStatement t own)
      ScopedStatement (while a e s) own = ScopedExpression e own × ScopedStatement s own
      ScopedStatement (give_back a e) own = ScopedExpression e own
      ScopedStatement (block a ds ss) own = AllFresh (map name_of ds) own × ScopedStatements ss (bind_names ds own)

      pub ScopedStatements : Statements → List ℕ → Type 0
      ScopedStatements no_statement own = Unit {0}
      ScopedStatements (then s ss) own = ScopedStatement s own × ScopedStatements ss own

    -- A function's parameters are fresh, and its body uses the globals and its own names only.
    abbrev pub ScopedFunctions : List Function → Type 0
    ScopedFunctions [] = Unit {0}
    ScopedFunctions (f ∷ fs) =
        (AllFresh f.parameters [] × ScopedStatement f.body (reverse f.parameters)) × ScopedFunctions fs

-- The name of a function.
abbrev pub function_name : Function → ℕ
function_name f = f.name

-- What acceptance of a program means.
pub record WellNamed (p : Program) : Type 0 where
  pub variables_differ : Distinct (map name_of (globals_of p))
  pub functions_differ : Distinct (map function_name (functions_of p.declarations))
  pub functions_scoped :
      ScopedFunctions (global_names p) (functions_of p.declarations) (functions_of p.declarations)
  pub main_scoped : ScopedStatement (global_names p) (functions_of p.declarations) p.main []
  pub small : largest_need p ≤ 100
