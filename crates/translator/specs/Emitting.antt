-- What an emitter has to have, what it keeps, and what it puts at the end of the code.
use Rattle.std.specs.Prelude.{◌≡◌, ℕ, ℤ, ◌+◌, ◌*◌, ◌<◌, ◌≤◌, List, ◌++◌, Some, None, Option, map, reverse, length, vec_items, vec_len, vec_capacity}
use Rattle.stack.specs.Store.{contents, capacity}
use Rattle.script.specs.declared.record.Record.{Record}
use Rattle.script.specs.Rows.{node_of}
use Rattle.syntax.specs.Syntax.{variables_of, functions_of, number_of}
use Rattle.syntax.specs.Trees.{tree_at, pieces, size, sizes}
use Rattle.syntax.specs.Typed.{expression_at, arguments_at, statement_at, statements_at, declarations_at, function_of}
use Rattle.code.specs.declared.instruction.Operation.{Operation}
use Rattle.code.specs.declared.instruction.Operation.TheVariants.{Pop}
use Rattle.code.specs.declared.instruction.Instruction.{Instruction}
use Rattle.code.specs.declared.instruction.FunctionEntry.{FunctionEntry}
use Rattle.code.specs.Scheme.{expression_code, arguments_code, statement_code, block_code, function_code}
use Rattle.code.specs.Scheme.{functions_code, entries_from}
use Rattle.translator.specs.Records.{record_operation}
use Rattle.translator.specs.declared.emitter.Emitter.{Emitter}

-- Room for the code of statements of so many records from an index on: four instructions a record suffice, and each name
-- in scope has a record of its own, those of the statements from that index on.
pub record HasRoom (e : Emitter) (at records : ℕ) : Type 0 where
  pub names : e.scope.now.height + length e.context.table.records.now ≤ capacity e.scope.now + at
  pub code : vec_len e.code.now + 4 * records ≤ vec_capacity e.code.now

-- Room for the code of functions of so many records, each of which begins with no name in scope.
pub record HasRoomForFunctions (e : Emitter) (records : ℕ) : Type 0 where
  pub names : length e.context.table.records.now ≤ capacity e.scope.now
  pub code : vec_len e.code.now + 4 * records ≤ vec_capacity e.code.now

-- How many records the part at an index has, and `count` parts from there on.
abbrev pub size_here : Emitter → ℕ → ℕ
size_here e at = size (tree_at e.context.table.records.now at)

abbrev pub sizes_here : Emitter → ℕ → ℕ → ℕ
sizes_here e at count = sizes (pieces e.context.table.records.now at count)

-- The context stays, and so do the stack and the code that were lent, each with its capacity.
pub record SameLoans (before after : Emitter) : Type 0 where
  pub context : after.context ≡ before.context
  pub scope : after.scope.ghost_name ≡ before.scope.ghost_name
  pub code : after.code.ghost_name ≡ before.code.ghost_name
  pub scope_capacity : capacity after.scope.now ≡ capacity before.scope.now
  pub code_capacity : vec_capacity after.code.now ≡ vec_capacity before.code.now

-- The names in scope stay as well, and what a return ends with.
pub record Keeps (before after : Emitter) : Type 0 where
  pub loans : SameLoans before after
  pub leave : after.leave ≡ before.leave
  pub names : contents after.scope.now ≡ contents before.scope.now
  pub height : after.scope.now.height ≡ before.scope.now.height

-- What is put at the end of the code, and that it is fewer than so many instructions.
abbrev pub Emits : Emitter → Emitter → List Instruction → Type 0
Emits before after piece = vec_items after.code.now ≡ vec_items before.code.now ++ piece

abbrev pub EmitsFewer : Emitter → Emitter → ℕ → Type 0
EmitsFewer before after n =
    (vec_len before.code.now ≤ vec_len after.code.now) × (vec_len after.code.now < vec_len before.code.now + n)

-- The code of what stands at an index, under an emitter's names: an expression, `count` arguments; from the end of its
-- code on, a statement, and `count` statements of the block at a place.
abbrev pub expression_here : Emitter → ℕ → List Instruction
expression_here e at =
    expression_code (reverse e.context.globals.now) e.context.functions.now (expression_at e.context.table.records.now at)
    (reverse (contents e.scope.now))

abbrev pub arguments_here : Emitter → ℕ → ℕ → List Instruction
arguments_here e at count =
    arguments_code (reverse e.context.globals.now) e.context.functions.now
    (arguments_at e.context.table.records.now at count) (reverse (contents e.scope.now))

abbrev pub statement_from : Emitter → ℕ → ℕ → List Instruction
statement_from e at start =
    statement_code (reverse e.context.globals.now) e.context.functions.now e.leave
    (statement_at e.context.table.records.now at) (reverse (contents e.scope.now)) start

abbrev pub statement_here : Emitter → ℕ → List Instruction
statement_here e at = statement_from e at (vec_len e.code.now)

abbrev pub statements_from : Emitter → ℕ → ℕ → ℕ → ℕ → List Instruction
statements_from e at count place start =
    block_code (reverse e.context.globals.now) e.context.functions.now e.leave
    (statements_at e.context.table.records.now at count) (reverse (contents e.scope.now)) place start

abbrev pub statements_here : Emitter → ℕ → ℕ → ℕ → List Instruction
statements_here e at count place = statements_from e at count place (vec_len e.code.now)

-- The same for the function at an index, and for the functions among `count` global declarations, with their entries.
abbrev pub function_here : Emitter → ℕ → List Instruction
function_here e at =
    function_code (reverse e.context.globals.now) e.context.functions.now (function_of (tree_at e.context.table.records.now at))
    (vec_len e.code.now)

abbrev pub functions_here : Emitter → ℕ → ℕ → List Instruction
functions_here e at count =
    functions_code (reverse e.context.globals.now) e.context.functions.now
    (functions_of (declarations_at e.context.table.records.now at count)) (vec_len e.code.now)

abbrev pub entries_here : Emitter → ℕ → ℕ → List FunctionEntry
entries_here e at count =
    entries_from (reverse e.context.globals.now) e.context.functions.now
    (functions_of (declarations_at e.context.table.records.now at count)) (vec_len e.code.now)

-- The first numbers of the variables among them.
abbrev pub numbers_here : Emitter → ℕ → ℕ → List ℤ
numbers_here e at count = map number_of (variables_of (declarations_at e.context.table.records.now at count))

-- The operation of an expression's own record under those names.
abbrev pub operation_here : Emitter → Record → Operation
operation_here e r =
    record_operation (reverse e.context.globals.now) e.context.functions.now (reverse (contents e.scope.now))
    (node_of r.kind) r

-- An operation on a variable, by what it is at a slot among the frame's names or else at one among the globals; POP of
-- no variable.
abbrev pub IsVariableOperation :
    (ℕ → Operation → Type 0) → (ℕ → Operation → Type 0) → Option ℕ → Option ℕ → Operation → Type 0
IsVariableOperation Local Global (Some k) o result = Local k result
IsVariableOperation Local Global None (Some k) result = Global k result
IsVariableOperation Local Global None None result = result ≡ Pop
