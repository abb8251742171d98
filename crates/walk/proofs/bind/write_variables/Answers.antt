use Rattle.std.proofs.Common.{ℕ, List, get_or, arith, w32, SFits, rules}
use Rattle.std.proofs.lemmas.Int.{to_z-of_z}
use Rattle.script.specs.declared.record.Record.{Record}
use Rattle.syntax.specs.Trees.{no_record}
use Rattle.walk.proofs.Written.{one-written}
use Rattle.walk.proofs.bind.write_variables.Goals as goal

pub loop-i-preserved : goal.loop-i-preserved
loop-i-preserved c =
    let nodes : List Record = c.args.nodes.now in
    let i : ℕ = c.loop-i.i in
    let s = c.loop-i.invariant in
    let fits : SFits w32 (get_or nodes i no_record).v = search rules in
    rw (to_z-of_z w32 (get_or nodes i no_record).v fits) record {
      names = one-written (λ (node : Record). node.a) nodes c.args.names.now i no_record c.loop-i-test.true
          (omega arith) _ s.names;
      words = one-written (λ (node : Record). node.v) nodes c.args.words.now i no_record c.loop-i-test.true
          (omega arith) _ s.words;
    }
