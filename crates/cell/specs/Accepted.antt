-- The table that a cell keeps has passed the check of its shape.
use Rattle.std.specs.Prelude.{Bool, true, List, is_ok}
use Rattle.script.specs.declared.record.Record.{Record}
use Rattle.script.specs.Shape.{shape}
use Rattle.cell.specs.declared.calls.State.{State}
use Rattle.cell.specs.declared.calls.State.TheVariants.{Empty, Loaded, Coded, Running, Over}

-- Has it in a state: in Empty none is kept.
abbrev pub accepted_in : State → List Record → Bool
accepted_in Empty table = true
accepted_in Loaded table = is_ok (shape table)
accepted_in Coded table = is_ok (shape table)
accepted_in Running table = is_ok (shape table)
accepted_in Over table = is_ok (shape table)
