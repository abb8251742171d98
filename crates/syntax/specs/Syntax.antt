-- The language as trees. Every node keeps the index of its record, its place.
use Rattle.std.specs.Prelude.{ℕ, suc, cond, List, [], ◌∷◌, length, ℤ, Some, None, Option, ◌==◌}
use Rattle.script.specs.declared.rows.Operator.{Operator}

-- The declaration of a variable: its place, its name and its first number.
pub data VariableDeclaration : Type 0 where
  declare : ℕ → ℕ → ℤ → VariableDeclaration

-- Expressions and argument lists. Each constructor takes its place first, then a name or a number, then its parts.
mutual
  pub data Expression : Type 0 where
    constant : ℕ → ℤ → Expression
    variable : ℕ → ℕ → Expression
    binary : ℕ → Operator → Expression → Expression → Expression
    assign : ℕ → ℕ → Expression → Expression
    call : ℕ → ℕ → Arguments → Expression
    bay_read : ℕ → Expression → Expression
    bay_write : ℕ → Expression → Expression → Expression

  pub data Arguments : Type 0 where
    no_argument : Arguments
    argument : Expression → Arguments → Arguments

-- Statements and statement lists.
mutual
  pub data Statement : Type 0 where
    evaluate : ℕ → Expression → Statement
    if_else : ℕ → Expression → Statement → Statement → Statement
    while : ℕ → Expression → Statement → Statement
    give_back : ℕ → Expression → Statement
    block : ℕ → List VariableDeclaration → Statements → Statement

  pub data Statements : Type 0 where
    no_statement : Statements
    then : Statement → Statements → Statements

-- A function: its place, its name, its parameters' names (their records follow the function's own) and its body.
pub record Function : Type 0 where
  pub place : ℕ
  pub name : ℕ
  pub parameters : List ℕ
  pub body : Statement

-- A global declaration.
pub data Declaration : Type 0 where
  of_a_variable : VariableDeclaration → Declaration
  of_a_function : Function → Declaration

-- A program: its global declarations in order, and its main statement.
pub record Program : Type 0 where
  pub declarations : List Declaration
  pub main : Statement

-- The name that a declaration of a variable gives.
abbrev pub name_of : VariableDeclaration → ℕ
name_of (declare a x v) = x

-- The number with which it is declared, the variable's first.
abbrev pub number_of : VariableDeclaration → ℤ
number_of (declare a x v) = v

-- The names of variables bound one after another on top of others, newest first.
abbrev pub bind_names : List VariableDeclaration → List ℕ → List ℕ
bind_names [] names = names
bind_names (declare a x v ∷ ds) names = bind_names ds (x ∷ names)

-- The global variables, in the order of their declaration.
abbrev pub variables_of : List Declaration → List VariableDeclaration
variables_of [] = []
variables_of (of_a_variable d ∷ ds) = d ∷ variables_of ds
variables_of (of_a_function f ∷ ds) = variables_of ds

-- The functions, in the order of their declaration.
abbrev pub functions_of : List Declaration → List Function
functions_of [] = []
functions_of (of_a_variable d ∷ ds) = functions_of ds
functions_of (of_a_function f ∷ ds) = f ∷ functions_of ds

-- The global variables of a program.
abbrev pub globals_of : Program → List VariableDeclaration
globals_of p = variables_of p.declarations

-- The names of a program's global variables, newest first.
abbrev pub global_names : Program → List ℕ
global_names p = bind_names (globals_of p) []

-- How many arguments there are.
abbrev pub argument_count : Arguments → ℕ
argument_count no_argument = 0
argument_count (argument e es) = suc (argument_count es)

-- The place of a name among names that stand newest first: how many are older than its newest.
abbrev pub locate : ℕ → List ℕ → Option ℕ
locate x [] = None
locate x (n ∷ ns) = cond (x == n) (Some (length ns)) (locate x ns)

-- The first function of a name.
abbrev pub function_named : ℕ → List Function → Option Function
function_named x [] = None
function_named x (f ∷ fs) = cond (x == f.name) (Some f) (function_named x fs)
