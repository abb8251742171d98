use Rattle.std.proofs.Common.{◌<◌, reverse, ◌∙◌, arith}
use Rattle.stack.specs.Store.{capacity}
use Rattle.stack.proofs.Contents.{height-pushed, contents-pushed, capacity-pushed}
use Rattle.names.proofs.Locals.{next-local}
use Rattle.names.proofs.Scopes.{local-again, local-new, one_more}
use Rattle.names.proofs.Outcomes.{handed}
use Rattle.names.proofs.context.Context.locals.Goals as goal

pub returns-in_err-unless-clause-answer : goal.returns-in_err-unless-clause-answer
returns-in_err-unless-clause-answer c =
    let p = next-local _ _ _ _ c.loop-index-test.true c.loop-index.invariant.parts in
    handed c.from_residual.ensures.1
    (local-again _ _ _ _ _ _ _ _ p.is c.live.ensures _ _ (rw c.is_declared-known.ensures at c.in_err-unless.ensures)
    ∙ c.loop-index.invariant.answer)

pub loop-index-preserved : goal.loop-index-preserved
loop-index-preserved c =
    let i = c.loop-index.invariant in
    let p = next-local _ _ _ _ c.loop-index-test.true i.parts in
    let before = c.loop-index.scope in
    let after = c.push.new.self in
    let room : before.height < capacity before = omega (arith, p.below, i.height, i.store) in
    let words = c.push.ensures.words in
    let height = c.push.ensures.height in
    let more = contents-pushed before after _ room words height in
    record {
      parts = p.others;
      answer = local-new _ _ _ _ _ _ _ _ p.is c.live.ensures _ more _ (rw c.is_declared-known.ensures at c.in_ok-unless.ensures)
          ∙ i.answer;
      bound = one_more (reverse c.args.self.now.globals.now) _ _ _ _ _ _ _ p.is c.live.ensures _ more ∙ i.bound;
      height = omega (arith, height-pushed before after _ room words height, i.height);
      store = capacity-pushed before after _ room words height ∙ i.store;
    }
