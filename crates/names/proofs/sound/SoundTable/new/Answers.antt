use Rattle.std.proofs.Common.{◌≡◌, Ok, rules}
use Rattle.script.specs.Shape.{shape}
use Rattle.syntax.proofs.Shaped.{shaped}
use Rattle.names.proofs.sound.SoundTable.new.Goals as goal

pub invariant_of-result : goal.invariant_of-result
invariant_of-result c =
    let fits : shape c.args.records.now ≡ Ok tt = search rules in
    let s = shaped c.args.records.now fits in
    record { some = s.some; few = s.few; sound = s.sound }
