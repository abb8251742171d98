-- One call more a turn, and at the end all of them.
use Rattle.std.proofs.Common.{◌∙◌, arith}
use Rattle.cell.proofs.Lists.{turn, all_made}
use Rattle.cell.proofs.memory.Cell.perform.Goals as goal

pub loop-call-preserved : goal.loop-call-preserved
loop-call-preserved g c =
    let inv = c.loop-call.invariant in (
      turn _ _ _ _ _ _ c.args.calls.now c.loop-call.call-index _ _ _ _ inv.3 c.loop-call-test.true
          inv.0 c.take-answer.ensures.made c.push_reserved.ensures.items,
      omega (arith, c.push_reserved.ensures.len, inv.1),
      omega (arith, c.push_reserved.ensures.capacity, inv.2),
      c.take-answer.ensures.holds ∙ inv.3,
      c.take-answer.ensures.loan ∙ inv.4,
    )

pub returns-clause-made : goal.returns-clause-made
returns-clause-made g c =
    all_made _ _ _ _ c.args.calls.now c.loop-call.call-index _ c.loop-call-test.false c.loop-call.invariant.0
