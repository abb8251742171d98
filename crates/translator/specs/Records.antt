-- What a single record contributes to the code.
use Rattle.std.specs.Prelude.{ℕ, List, length}
use Rattle.script.specs.declared.record.Record.{Record}
use Rattle.script.specs.declared.rows.NodeKind.{NodeKind}
use Rattle.script.specs.declared.rows.NodeKind.TheVariants as is
use Rattle.syntax.specs.Syntax.{Function, locate}
use Rattle.names.specs.declared.signature.Signature.{Signature}
use Rattle.code.specs.declared.instruction.Operation.{Operation}
use Rattle.code.specs.declared.instruction.Operation.TheVariants as operation
use Rattle.code.specs.declared.instruction.FunctionEntry.{FunctionEntry}
use Rattle.code.specs.Scheme.{operator_code, variable_code, function_index}

-- The operation of an expression's own record, by what the record is; POP where it is none of an expression.
abbrev pub record_operation : List ℕ → List Signature → List ℕ → NodeKind → Record → Operation
record_operation globals functions own is.Number r = operation.Lit r.v
record_operation globals functions own is.Variable r =
    variable_code operation.GetL operation.GetG (locate r.a own) (locate r.a globals)
record_operation globals functions own (is.TwoPart o) r = operator_code o
record_operation globals functions own is.Assignment r =
    variable_code operation.SetL operation.SetG (locate r.a own) (locate r.a globals)
record_operation globals functions own is.Call r = operation.Call (function_index r.a functions)
record_operation globals functions own is.BayRead r = operation.BayR
record_operation globals functions own is.BayWrite r = operation.BayW
record_operation globals functions own is.ExpressionStatement r = operation.Pop
record_operation globals functions own is.If r = operation.Pop
record_operation globals functions own is.While r = operation.Pop
record_operation globals functions own is.Return r = operation.Pop
record_operation globals functions own is.Block r = operation.Pop
record_operation globals functions own is.VariableDeclaration r = operation.Pop
record_operation globals functions own is.Function r = operation.Pop
record_operation globals functions own is.Parameter r = operation.Pop
record_operation globals functions own is.Program r = operation.Pop
record_operation globals functions own is.Unknown r = operation.Pop

-- The entry of a function whose code begins at an instruction.
abbrev pub entry_of : ℕ → Function → FunctionEntry
entry_of start f = record { start = start; parameters = length f.parameters }
