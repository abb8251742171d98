use Rattle.translator.proofs.Lengths.{at-most-four-a-record}
use Rattle.translator.proofs.laws.code_is_short.Goals as goal

pub returns : goal.returns
returns c = at-most-four-a-record
