-- As many names and words are written as records were read.
use Rattle.std.proofs.Common.{◌≡◌, ◌++◌, map, take, drop}
use Rattle.script.specs.declared.record.Record.{Record}
use Rattle.walk.proofs.bind.write_variables.Given as goal

abbrev pub invariant-loop-i : goal.invariant-loop-i
invariant-loop-i l = record {
  names : l.names ≡ map (λ (node : Record). node.a) (take l.i l.nodes) ++ drop l.i l.initial.names;
  words : l.words ≡ map (λ (node : Record). node.v) (take l.i l.nodes) ++ drop l.i l.initial.words;
}
