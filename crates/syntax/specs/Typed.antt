-- The syntax tree of a table: what each record and its parts are, by the record's kind.
use Rattle.std.specs.Prelude.{ℕ, zero, suc, List, [], ◌∷◌, map, take, pos, slice_index_or}
use Rattle.script.specs.declared.record.Record.{Record}
use Rattle.script.specs.declared.rows.NodeKind.{NodeKind}
use Rattle.script.specs.declared.rows.NodeKind.TheVariants as is
use Rattle.script.specs.Rows.{natural, node_of, row_of, amount}
use Rattle.syntax.specs.Trees.{Tree, Forest, node, none, more, pieces, tree_at, no_record}
use Rattle.syntax.specs.Syntax.{VariableDeclaration, declare, Expression, constant, variable, binary, assign, call, bay_read, bay_write}
use Rattle.syntax.specs.Syntax.{Arguments, no_argument, argument, Statement, evaluate, if_else, while, give_back, block}
use Rattle.syntax.specs.Syntax.{Statements, no_statement, then, Function, Declaration, of_a_variable, of_a_function, Program, name_of}

-- What stands for an expression that is not there; in a table of accepted shape every part is.
abbrev pub no_expression : Expression
no_expression = constant 0 (pos 0)

-- What stands for a statement that is not there.
abbrev pub empty_statement : Statement
empty_statement = evaluate 0 no_expression

-- The first of some arguments.
abbrev pub first : Arguments → Expression
first no_argument = no_expression
first (argument e es) = e

-- The other arguments.
abbrev pub rest : Arguments → Arguments
rest no_argument = no_argument
rest (argument e es) = es

-- The first of some statements.
abbrev pub first_statement : Statements → Statement
first_statement no_statement = empty_statement
first_statement (then s ss) = s

-- The statements after the first n.
abbrev pub drop_statements : ℕ → Statements → Statements
drop_statements zero ss = ss
drop_statements (suc n) no_statement = no_statement
drop_statements (suc n) (then s ss) = drop_statements n ss

-- An expression, from what its record is, its place, its record and its parts.
abbrev pub make_expression : NodeKind → ℕ → Record → Arguments → Expression
make_expression is.Number p r es = constant p r.v
make_expression is.Variable p r es = variable p r.a
make_expression (is.TwoPart o) p r es = binary p o (first es) (first (rest es))
make_expression is.Assignment p r es = assign p r.a (first es)
make_expression is.Call p r es = call p r.a es
make_expression is.BayRead p r es = bay_read p (first es)
make_expression is.BayWrite p r es = bay_write p (first es) (first (rest es))
make_expression other p r es = no_expression

abbrev mutual
  -- A tree read as an expression.
  pub expression_of : Tree → Expression
  expression_of (node p r ts) = make_expression (node_of r.kind) p r (arguments_of ts)

  -- Trees read as arguments.
  pub arguments_of : Forest → Arguments
  arguments_of none = no_argument
  arguments_of (more t ts) = argument (expression_of t) (arguments_of ts)

-- A tree read as the declaration of a variable; a parameter reads as one with its record's number.
abbrev pub variable_of : Tree → VariableDeclaration
variable_of (node p r ts) = declare p r.a r.v

-- Trees read as declarations of variables.
abbrev pub variables_in : Forest → List VariableDeclaration
variables_in none = []
variables_in (more t ts) = variable_of t ∷ variables_in ts

-- A statement, from its parts: all of them are read as expressions, all as declarations and all as statements, and each
-- node takes those that its parts are. So `drop_statements 1` goes past a test.
abbrev pub make_statement :
    NodeKind → ℕ → Record → Arguments → List VariableDeclaration → Statements → Statement
make_statement is.ExpressionStatement p r es ds ss = evaluate p (first es)
make_statement is.If p r es ds ss =
    if_else p (first es) (first_statement (drop_statements 1 ss)) (first_statement (drop_statements 2 ss))
make_statement is.While p r es ds ss = while p (first es) (first_statement (drop_statements 1 ss))
make_statement is.Return p r es ds ss = give_back p (first es)
make_statement is.Block p r es ds ss = block p (take r.a ds) (drop_statements r.a ss)
make_statement other p r es ds ss = empty_statement

abbrev mutual
  -- A tree read as a statement.
  pub statement_of : Tree → Statement
  statement_of (node p r ts) =
      make_statement (node_of r.kind) p r (arguments_of ts) (variables_in ts) (statements_of ts)

  -- Trees read as statements.
  pub statements_of : Forest → Statements
  statements_of none = no_statement
  statements_of (more t ts) = then (statement_of t) (statements_of ts)

-- A function: as many parameters as its record's number says, then its body.
abbrev pub function_of : Tree → Function
function_of (node p r ts) = record {
  place = p;
  name = r.a;
  parameters = map name_of (take (natural r.v) (variables_in ts));
  body = first_statement (drop_statements (natural r.v) (statements_of ts));
}

-- A global declaration: a function where the record is one, else a variable.
abbrev pub make_declaration : NodeKind → Tree → Declaration
make_declaration is.Function t = of_a_function (function_of t)
make_declaration other t = of_a_variable (variable_of t)

-- Which node the record of a tree is.
abbrev pub node_kind : Tree → NodeKind
node_kind (node p r ts) = node_of r.kind

-- Trees read as global declarations.
abbrev pub declarations_of : Forest → List Declaration
declarations_of none = []
declarations_of (more t ts) = make_declaration (node_kind t) t ∷ declarations_of ts

-- A program: as many declarations as its record's name field says, then its statement.
abbrev pub program_in : Tree → Program
program_in (node p r ts) = record {
  declarations = take r.a (declarations_of ts);
  main = first_statement (drop_statements r.a (statements_of ts));
}

-- The expression at an index of a table.
abbrev pub expression_at : List Record → ℕ → Expression
expression_at table at = expression_of (tree_at table at)

-- The n arguments from an index of a table on.
abbrev pub arguments_at : List Record → ℕ → ℕ → Arguments
arguments_at table at n = arguments_of (pieces table at n)

-- The statement at an index of a table.
abbrev pub statement_at : List Record → ℕ → Statement
statement_at table at = statement_of (tree_at table at)

-- The n statements from an index of a table on.
abbrev pub statements_at : List Record → ℕ → ℕ → Statements
statements_at table at n = statements_of (pieces table at n)

-- The n declarations of variables, or parameters, from an index of a table on.
abbrev pub variables_at : List Record → ℕ → ℕ → List VariableDeclaration
variables_at table at n = variables_in (pieces table at n)

-- The n global declarations from an index of a table on.
abbrev pub declarations_at : List Record → ℕ → ℕ → List Declaration
declarations_at table at n = declarations_of (pieces table at n)

-- The program of a whole table.
abbrev pub program_of : List Record → Program
program_of table = program_in (tree_at table 0)

-- How many parts a record has of its row's first sort.
abbrev pub first_parts : Record → ℕ
first_parts r = amount (row_of r.kind).first.count r

-- How many parts a record has of its row's second sort.
abbrev pub second_parts : Record → ℕ
second_parts r = amount (row_of r.kind).second.count r

-- What the record at an index is.
abbrev pub node_at : List Record → ℕ → NodeKind
node_at table at = node_of (slice_index_or table at no_record).kind
