-- The promises, at the number kind of W.
use Rattle.cell.proofs.Keeping.{promises}
use Rattle.cell.proofs.promises.promises_stand.Goals as goal

pub returns : goal.returns
returns g c = λ holds. promises g.W.NumberKind.kind holds
