-- The prefix listing of a syntax tree: each node's record, then the listings of its parts in order.
use Rattle.std.specs.Prelude.{◌≡◌, ℕ, suc, ◌≤◌, true, List, [], ◌∷◌, ◌++◌, length, ℤ, pos, Ok}
use Rattle.script.specs.declared.record.Record.{Record}
use Rattle.script.specs.declared.rows.Operator.{Operator}
use Rattle.script.specs.declared.rows.Operator.TheVariants.{Sum, Difference, Greater}
use Rattle.script.specs.Rows.{row_of}
use Rattle.script.specs.Shape.{fields, shape}
use Rattle.syntax.specs.Syntax.{VariableDeclaration, declare, Expression, constant, variable, binary, assign, call, bay_read, bay_write}
use Rattle.syntax.specs.Syntax.{Arguments, no_argument, argument, argument_count, Statement, evaluate, if_else, while, give_back, block}
use Rattle.syntax.specs.Syntax.{Statements, no_statement, then, Declaration, of_a_variable, of_a_function, Program}
use Rattle.syntax.specs.Typed.{program_of}

-- a record of a kind with its fields a and v
abbrev pub rec : ℕ → ℕ → ℤ → Record
rec k x y = record { kind = k; a = x; v = y }

-- the kind of an expression with two parts, by its operator
abbrev pub operator_kind : Operator → ℕ
operator_kind Sum = 3
operator_kind Difference = 4
operator_kind Greater = 5

abbrev mutual
  -- An expression: its record, then the listings of its parts. A call's record has the count of its arguments.
  pub list_expression : Expression → List Record
  list_expression (constant p v) = rec 1 0 v ∷ []
  list_expression (variable p x) = rec 2 x (pos 0) ∷ []
  list_expression (binary p o e f) = rec (operator_kind o) 0 (pos 0) ∷ (list_expression e ++ list_expression f)
  list_expression (assign p x e) = rec 6 x (pos 0) ∷ list_expression e
  list_expression (call p f es) = rec 7 f (pos (argument_count es)) ∷ list_arguments es
  list_expression (bay_read p e) = rec 8 0 (pos 0) ∷ list_expression e
  list_expression (bay_write p e f) = rec 9 0 (pos 0) ∷ (list_expression e ++ list_expression f)

  -- Arguments, one after another.
  pub list_arguments : Arguments → List Record
  list_arguments no_argument = []
  list_arguments (argument e es) = list_expression e ++ list_arguments es

-- Variable declarations, a record each.
abbrev pub list_variables : List VariableDeclaration → List Record
list_variables [] = []
list_variables (declare p x v ∷ ds) = rec 24 x v ∷ list_variables ds

-- How many statements there are.
abbrev pub statement_count : Statements → ℕ
statement_count no_statement = 0
statement_count (then s ss) = suc (statement_count ss)

abbrev mutual
  -- A statement: its record, then the listings of its parts. A block's record has the counts of its locals and statements.
  pub list_statement : Statement → List Record
  list_statement (evaluate p e) = rec 16 0 (pos 0) ∷ list_expression e
  list_statement (if_else p e s t) = rec 17 0 (pos 0) ∷ (list_expression e ++ (list_statement s ++ list_statement t))
  list_statement (while p e s) = rec 18 0 (pos 0) ∷ (list_expression e ++ list_statement s)
  list_statement (give_back p e) = rec 19 0 (pos 0) ∷ list_expression e
  list_statement (block p ds ss) = rec 20 (length ds) (pos (statement_count ss)) ∷ (list_variables ds ++ list_statements ss)

  -- Statements, one after another.
  pub list_statements : Statements → List Record
  list_statements no_statement = []
  list_statements (then s ss) = list_statement s ++ list_statements ss

-- Parameters, a record each, which has the parameter's name.
abbrev pub list_parameters : List ℕ → List Record
list_parameters [] = []
list_parameters (x ∷ xs) = rec 26 x (pos 0) ∷ list_parameters xs

-- A global declaration. A function's record has the count of its parameters, which follow it, and then its body.
abbrev pub list_declaration : Declaration → List Record
list_declaration (of_a_variable (declare p x v)) = rec 24 x v ∷ []
list_declaration (of_a_function f) =
    rec 25 f.name (pos (length f.parameters)) ∷ (list_parameters f.parameters ++ list_statement f.body)

-- Declarations, one after another.
abbrev pub list_declarations : List Declaration → List Record
list_declarations [] = []
list_declarations (d ∷ ds) = list_declaration d ++ list_declarations ds

-- A program: its record, which has the count of its declarations, then those, then its statement.
abbrev pub listing : Program → List Record
listing p = rec 27 (length p.declarations) (pos 0) ∷ (list_declarations p.declarations ++ list_statement p.main)

-- Every field of every record is within the bounds of its kind.
abbrev pub InBounds : List Record → Type 0
InBounds [] = Unit {0}
InBounds (r ∷ rs) = (fields (row_of r.kind) r ≡ true) × InBounds rs

-- A table is some program, drawn up in prefix order.
pub record Lists (table : List Record) (p : Program) : Type 0 where
  pub is_listing : table ≡ listing p
  pub in_bounds : InBounds table
  pub small : length table ≤ 1024

-- A table's shape is accepted exactly where the table is the prefix listing of a program tree, with every field in its
-- bounds, and of at most 1,024 records. That tree is the program of the table, as the passes over it read it.
pub record AcceptedIsListing : Type 0 where
  pub accepted_lists : (table : List Record) → shape table ≡ Ok tt → Lists table (program_of table)
  pub listed_is_accepted : (table : List Record) (p : Program) → Lists table p → shape table ≡ Ok tt
