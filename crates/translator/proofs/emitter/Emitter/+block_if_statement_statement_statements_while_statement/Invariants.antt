use Rattle.std.proofs.Common.{◌≡◌, ◌+◌, ◌-◌, ◌*◌, ◌≤◌, ◌++◌, length, vec_items, vec_len}
use Rattle.script.specs.declared.rows.Sort.TheVariants.{Statement}
use Rattle.syntax.specs.Trees.{pieces, sizes, Parts}
use Rattle.translator.specs.Emitting.{Keeps, statements_from}
use Rattle.translator.proofs.emitter.Emitter.+block_if_statement_statement_statements_while_statement.Given as goal

abbrev pub decreases-block : goal.decreases-block
decreases-block l = 3 * (length l.self.now.context.table.records.now - l.at)

abbrev pub decreases-if_statement : goal.decreases-if_statement
decreases-if_statement l = 3 * (length l.self.now.context.table.records.now - l.at)

abbrev pub decreases-statement : goal.decreases-statement
decreases-statement l = 3 * (length l.self.now.context.table.records.now - l.at) + 1

abbrev pub decreases-statements : goal.decreases-statements
decreases-statements l = 3 * (length l.self.now.context.table.records.now - l.at) + 2

abbrev pub decreases-while_statement : goal.decreases-while_statement
decreases-while_statement l = 3 * (length l.self.now.context.table.records.now - l.at)

-- What was emitted so far, and what the statements that are left emit, are all.
abbrev pub invariant-statements-loop : goal.invariant-statements-loop
invariant-statements-loop l =
    let a = l.initial.self in record {
      left : Parts a.context.table.records.now l.next (l.count - l.counter) Statement;
      items : vec_items l.self.code.now ++ statements_from a l.next (l.count - l.counter) l.place (vec_len l.self.code.now)
          ≡ vec_items a.code.now ++ statements_from a l.at l.count l.place (vec_len a.code.now);
      longer : vec_len a.code.now ≤ vec_len l.self.code.now;
      bound : vec_len l.self.code.now + 4 * sizes (pieces a.context.table.records.now l.next (l.count - l.counter))
          ≤ vec_len a.code.now + 4 * sizes (pieces a.context.table.records.now l.at l.count);
      keeps : Keeps a l.self;
      next : l.next + sizes (pieces a.context.table.records.now l.next (l.count - l.counter))
          ≡ l.at + sizes (pieces a.context.table.records.now l.at l.count);
      further : l.at ≤ l.next;
    }
