use Rattle.std.proofs.Common.{◌<◌, map, ap, ◌∙◌, arith, rules}
use Rattle.stack.specs.Store.{capacity}
use Rattle.stack.proofs.Contents.{height-pushed, contents-pushed, capacity-pushed}
use Rattle.syntax.specs.Syntax.{name_of}
use Rattle.names.proofs.Locals.{next-local}
use Rattle.translator.proofs.Declared.{moved}
use Rattle.translator.proofs.emitter.Emitter.bind.Goals as goal

pub loop-node-preserved : goal.loop-node-preserved
loop-node-preserved c =
    let p = next-local _ _ _ _ c.loop-node-test.true c.loop-node.invariant.left in
    let before = c.loop-node.self.scope.now in
    let after = c.push.new.self in
    let loans = c.loop-node.invariant.loans in
    let room : before.height < capacity before = omega (arith, p.below, loans.scope_capacity) in
    let words = c.push.ensures.words in
    let height = c.push.ensures.height in
    record {
      left = p.others;
      bound = moved _ _ _ _ _ _ (ap (map name_of) p.is) c.loop-node.invariant.bound
          (contents-pushed before after _ room words height);
      height = omega (arith, height-pushed before after _ room words height);
      code = search rules;
      leave = c.loop-node.invariant.leave;
      loans = record {
        context = loans.context;
        scope = loans.scope;
        code = loans.code;
        scope_capacity = capacity-pushed before after _ room words height ∙ loans.scope_capacity;
        code_capacity = loans.code_capacity;
      };
    }
