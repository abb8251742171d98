-- As many literals are written as numbers were read.
use Rattle.std.proofs.Common.{◌≡◌, ◌++◌, map, take, drop}
use Rattle.cell.proofs.arming.write_literals.Given as goal

abbrev pub invariant-loop-i : goal.invariant-loop-i
invariant-loop-i g l =
    l.words ≡ map (λ v. g.W.NumberKind.kind.literal v) (take l.i l.numbers) ++ drop l.i l.initial.words
