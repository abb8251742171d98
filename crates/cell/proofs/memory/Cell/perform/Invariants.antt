-- The calls so far are made and answered; what a bay can hold and what is on loan stay.
use Rattle.std.proofs.Common.{◌≡◌, ◌≤◌, length, vec_items, vec_len, vec_capacity}
use Rattle.cell.specs.Showing.{world_in}
use Rattle.cell.proofs.Lists.{SoFar}
use Rattle.cell.proofs.memory.Cell.perform.Given as goal

abbrev pub invariant-loop-call : goal.invariant-loop-call
invariant-loop-call g l =
    SoFar g.R.Word.NumberKind.kind (g.R.Rack.holds l.initial.rack)
    (world_in l.initial.self l.initial.words (g.R.Rack.bays l.initial.rack)) l.calls l.call-index
    (vec_items l.answers) (world_in l.self l.words (g.R.Rack.bays l.rack))
    × (vec_len l.answers ≡ l.call-index)
    × (length l.calls ≤ vec_capacity l.answers)
    × (g.R.Rack.holds l.rack ≡ g.R.Rack.holds l.initial.rack)
    × (g.R.Rack.loan l.rack ≡ g.R.Rack.loan l.initial.rack)
