use Rattle.std.proofs.Common.{◌≡◌, ◌-◌, ◌<◌, [], ◌∷◌, length, get_or, ℤ, vec_len, sym, refl, ap, ◌∙◌, arith, w32, SFits, rules}
use Rattle.std.proofs.lemmas.Int.{to_z-of_z}
use Rattle.syntax.proofs.Expressions.{firsts}
use Rattle.syntax.specs.Trees.{tree_at, no_record}
use Rattle.syntax.specs.Typed.{function_of}
use Rattle.translator.specs.declared.emitter.Emitter.{Emitter}
use Rattle.translator.specs.Emitting.{SameLoans}
use Rattle.translator.specs.Records.{entry_of}
use Rattle.translator.proofs.Declared.{next-function, next-variable}
use Rattle.translator.proofs.Emitters.{same_loans, same_table}
use Rattle.translator.proofs.Lists.{long, put_as}
use Rattle.translator.proofs.Programs.{functions-code, functions-entries, first-number}
use Rattle.translator.proofs.emitter.Emitter.declarations.Goals as goal
use Rattle.translator.proofs.emitter.Emitter.declarations.Goals.{in-Function, in_default}

pub bounds-self-at : goal.bounds-self-at
bounds-self-at c =
    let k : 0 < c.args.count - c.loop.counter = omega arith in
    (firsts c.loop.self.context.table.records.now c.loop.at (c.args.count - c.loop.counter) _ _ k c.loop.invariant.left.sound refl).within

pub function-at-requires : goal.function-at-requires
function-at-requires c =
    let k : 0 < c.args.count - c.loop.counter = omega arith in
    let p = firsts c.loop.self.context.table.records.now c.loop.at (c.args.count - c.loop.counter) _ _ k c.loop.invariant.left.sound refl in
    let loans = c.loop.invariant.loans in
    let same = ap length (same_table _ _ loans) in
    record {
      part = record { within = p.within; sound = p.first };
      kind = sym c.in-Function.ensures;
      room = record {
        names = omega (arith, same, loans.scope_capacity, c.requires.room.names);
        code = omega (arith, p.whole, loans.code_capacity, c.loop.invariant.bound, c.requires.room.code);
      };
    }

pub loop-preserved : goal.loop-preserved
loop-preserved c =
    let e : Emitter = c.loop.self in
    let left = c.loop.invariant in
    elim c.match-node_kind.branch [
      | in-Function w ↦
          let called = w.function-at.ensures in
          let p = next-function e.context.table.records.now c.loop.at c.args.count c.loop.counter w.function-at.result (omega arith) left.left
          (sym w.in-Function.ensures) called.next in
          let loans : SameLoans c.args.self.now w.function-at.new.self = same_loans left.loans called.loans in
          let entry : record { start = w.len.result; parameters = w.part_count.result } ∷ []
          ≡ entry_of (vec_len e.code.now) (function_of (tree_at e.context.table.records.now c.loop.at)) ∷ [] =
          cc (w.len.ensures, w.part_count.ensures, p.count) in
          rw (w.self-is, w.at-is, w.entries-is, w.numbers-is, called.loans.context) record {
            left = p.others;
            items = functions-code _ _ _ _ _ p.is _ _ _ _ (long e.code.now) (long w.function-at.new.self.code.now) called.items _ refl ∙ left.items;
            bound = omega (arith, p.whole);
            entry = functions-entries _ _ _ _ _ p.is _ _ _ _ (long e.code.now) (long w.function-at.new.self.code.now) called.items
                _ _ _ (put_as _ w.push_reserved.ensures.items entry) refl ∙ left.entry;
            number = rw p.is at left.number;
            loans = record {
              context = left.loans.context;
              scope = loans.scope;
              code = loans.code;
              scope_capacity = loans.scope_capacity;
              code_capacity = loans.code_capacity;
            };
            entries_free = omega arith;
            numbers_free = omega arith;
            entries_capacity = w.push_reserved.ensures.capacity ∙ left.entries_capacity;
            numbers_capacity = left.numbers_capacity;
          }
      | in_default w ↦
          let p = next-variable e.context.table.records.now c.loop.at c.args.count c.loop.counter (omega arith) left.left
          (λ q. w.in_default.not-Function (c.node_kind.ensures ∙ q)) in
          let v : ℤ = (get_or e.context.table.records.now c.loop.at no_record).v in
          let fits : SFits w32 v = search rules in
          rw (w.self-is, w.at-is, w.entries-is, w.numbers-is) record {
            left = p.others;
            items = rw p.is at left.items;
            bound = omega (arith, p.whole);
            entry = rw p.is at left.entry;
            number = first-number _ _ _ _ _ _ _ _ p.is (simp to_z-of_z at w.push_reserved-in_default.ensures.items) refl ∙ left.number;
            loans = left.loans;
            entries_free = omega arith;
            numbers_free = omega arith;
            entries_capacity = left.entries_capacity;
            numbers_capacity = w.push_reserved-in_default.ensures.capacity ∙ left.numbers_capacity;
          }
    ]
