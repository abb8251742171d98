use Rattle.kinds.proofs.Laws.{counter-laws, rail-laws}
use Rattle.kinds.proofs.facts.literal_laws_stand.Goals as goal

pub returns : goal.returns
returns c = record { counters = counter-laws; floats = rail-laws }
