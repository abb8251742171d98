use Rattle.std.proofs.Common.{◌≡◌, ◌+◌, ◌-◌, ◌*◌, ◌≤◌, ◌++◌, vec_items, vec_len, vec_capacity}
use Rattle.script.specs.declared.rows.Sort.TheVariants.{Declaration}
use Rattle.syntax.specs.Trees.{pieces, sizes, Parts}
use Rattle.translator.specs.Emitting.{SameLoans, functions_here, entries_here, numbers_here}
use Rattle.translator.proofs.emitter.Emitter.declarations.Given as goal

-- What was emitted so far, and what the declarations that are left emit, are all.
abbrev pub invariant-loop : goal.invariant-loop
invariant-loop l = record {
  left : Parts l.self.context.table.records.now l.at (l.count - l.counter) Declaration;
  items : vec_items l.self.code.now ++ functions_here l.self l.at (l.count - l.counter)
      ≡ vec_items l.initial.self.code.now ++ functions_here l.initial.self l.first l.count;
  bound : vec_len l.self.code.now + 4 * sizes (pieces l.self.context.table.records.now l.at (l.count - l.counter))
      ≤ vec_len l.initial.self.code.now + 4 * sizes (pieces l.initial.self.context.table.records.now l.first l.count);
  entry : vec_items l.entries ++ entries_here l.self l.at (l.count - l.counter)
      ≡ vec_items l.initial.entries ++ entries_here l.initial.self l.first l.count;
  number : vec_items l.numbers ++ numbers_here l.self l.at (l.count - l.counter)
      ≡ vec_items l.initial.numbers ++ numbers_here l.initial.self l.first l.count;
  loans : SameLoans l.initial.self l.self;
  entries_free : vec_len l.entries ≤ vec_len l.initial.entries + l.counter;
  numbers_free : vec_len l.numbers ≤ vec_len l.initial.numbers + l.counter;
  entries_capacity : vec_capacity l.entries ≡ vec_capacity l.initial.entries;
  numbers_capacity : vec_capacity l.numbers ≡ vec_capacity l.initial.numbers;
}
