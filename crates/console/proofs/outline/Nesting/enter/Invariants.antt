use Rattle.std.proofs.Common.{vec_len}
use Rattle.console.proofs.outline.Nesting.enter.Given as goal

abbrev pub decreases-loop-self : goal.decreases-loop-self
decreases-loop-self l = vec_len l.self.wanted
