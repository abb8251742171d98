use Rattle.std.proofs.Common.{◌≡◌, ℕ, ◌+◌, ◌*◌, ◌≤◌, List, [], ◌++◌, map, reverse, length, get_or, take, vec_items, vec_len, vec_capacity, refl, ap, ◌∙◌, arith, rules}
use Rattle.stack.specs.Store.{contents}
use Rattle.syntax.specs.Syntax.{name_of}
use Rattle.syntax.specs.Trees.{tree_at, size, no_record}
use Rattle.syntax.specs.Typed.{variables_at, function_of}
use Rattle.syntax.proofs.Declarations.{Functional, functional, function_at}
use Rattle.translator.specs.declared.emitter.Emitter.{Emitter}
use Rattle.translator.proofs.Emitters.{same_table}
use Rattle.translator.proofs.Programs.{function-code}
use Rattle.translator.proofs.emitter.Emitter.function.Goals as goal
use Rattle.translator.proofs.emitter.Emitter.function.Goals.{After-part_count-count, After-statement-next}

-- The function's parameters and its body.
parts : (c : After-part_count-count) →
    Functional c.args.self.now.context.table.records.now c.args.at c.part_count-count.result (c.args.at + 1 + c.part_count-count.result)
    (get_or c.args.self.now.context.table.records.now c.args.at no_record)
parts c =
    functional _ c.args.at _ _ no_record c.requires.part.within c.requires.part.sound c.requires.kind c.part_count-count.ensures refl

-- After the body there is room for three instructions more.
pub record Ended (a e : Emitter) (at end : ℕ) : Type 0 where
  pub short : vec_len e.code.now + 3 ≤ vec_len a.code.now + 4 * size (tree_at a.context.table.records.now at)
  pub capacity : vec_capacity e.code.now ≡ vec_capacity a.code.now
  pub next : end ≡ at + size (tree_at a.context.table.records.now at)

ended : (c : After-statement-next) → Ended c.args.self.now c.statement-next.new.self c.args.at c.statement-next.result
ended c =
    let p = functional _ c.args.at _ _ no_record c.requires.part.within c.requires.part.sound c.requires.kind
    c.part_count-count.ensures refl in
    let same = same_table _ c.bind.new.self c.bind.ensures.loans in
    let start = ap vec_len c.bind.ensures.code in
    let b = rw same at c.statement-next.ensures.bound in
    let n = rw same at c.statement-next.ensures.next in
    record {
      short = omega (arith, p.whole);
      capacity = c.statement-next.ensures.keeps.loans.code_capacity ∙ c.bind.ensures.loans.code_capacity;
      next = omega (arith, p.whole);
    }

pub bind-requires : goal.bind-requires
bind-requires c =
    let p = parts (goal.at.bind-requires c).After-part_count-count in
    record {
      parts = record { within = omega (arith, p.within); leaves = p.parameters };
      names = omega (arith, p.within, c.requires.room.names, ap length c.cut.ensures.words);
    }

pub overflow_add-at-3 : goal.overflow_add-at-3
overflow_add-at-3 c =
    let h = (parts (goal.at.overflow_add-at-3 c).After-part_count-count).within in
    let s = c.args.self.now.context.table.few in
    search rules

pub statement-next-requires : goal.statement-next-requires
statement-next-requires c =
    let p = parts (goal.at.statement-next-requires c).After-part_count-count in
    let same = same_table _ c.bind.new.self c.bind.ensures.loans in
    let long = ap length same in
    record {
      part = rw same record { within = p.within; sound = p.body };
      room = record {
        names = omega (arith, long, c.requires.room.names, c.bind.ensures.loans.scope_capacity, ap length c.cut.ensures.words);
        code = rw same (omega (arith, p.whole, c.requires.room.code, c.bind.ensures.loans.code_capacity, ap vec_len c.bind.ensures.code));
      };
    }

pub append-requires : goal.append-requires
append-requires c =
    let e = ended (goal.at.append-requires c).After-statement-next in
    omega (arith, e.short, e.capacity, c.requires.room.code)

pub append-requires-2 : goal.append-requires-2
append-requires-2 c =
    let e = ended (goal.at.append-requires-2 c).After-statement-next in
    omega (arith, e.short, e.capacity, c.requires.room.code)

pub append-requires-3 : goal.append-requires-3
append-requires-3 c =
    let e = ended (goal.at.append-requires-3 c).After-statement-next in
    omega (arith, e.short, e.capacity, c.requires.room.code)

pub returns-clause-items : goal.returns-clause-items
returns-clause-items c =
    let a : Emitter = c.args.self.now in
    let n : ℕ = c.part_count-count.result in
    let body = rw (c.bind.ensures.loans.context, c.bind.ensures.code, c.bind.ensures.leave) at c.statement-next.ensures.items in
    let empty : contents c.cut.new.self ≡ [] =
    ap (λ (h : ℕ). take h c.cut.new.self.words.now) c.cut.ensures.height in
    let names : List ℕ = map name_of (variables_at a.context.table.records.now (c.args.at + 1) n) in
    function-code (reverse a.context.globals.now) a.context.functions.now (function_of (tree_at a.context.table.records.now c.args.at))
    (function_at a.context.table.records.now c.args.at n (c.args.at + 1 + n) (get_or a.context.table.records.now c.args.at no_record))
    (vec_items a.code.now) _ _ _ _ (reverse (contents c.bind.new.self.scope.now)) (vec_len a.code.now)
    (parts (goal.at.returns-clause-items c).After-part_count-count).is
    (ap reverse (c.bind.ensures.bound ∙ ap (λ (z : List ℕ). z ++ names) empty))
    body c.append.ensures.items c.append-2.ensures.items c.append-3.ensures.items

pub returns-clause-bound : goal.returns-clause-bound
returns-clause-bound c =
    omega (arith, (ended (goal.at.returns-clause-bound c).After-statement-next).short)

pub returns-clause-next : goal.returns-clause-next
returns-clause-next c =
    (ended (goal.at.returns-clause-next c).After-statement-next).next
