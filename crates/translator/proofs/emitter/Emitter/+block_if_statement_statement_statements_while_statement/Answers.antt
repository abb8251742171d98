use Rattle.std.proofs.Common.{◌≡◌, ℕ, ◌+◌, ◌-◌, ◌≤◌, List, [], ◌∷◌, map, reverse, length, vec_items, vec_len, vec_capacity, sym, refl, ap, ◌∙◌, arith, rules}
use Rattle.stack.specs.Store.{contents}
use Rattle.stack.proofs.Contents.{length-contents, contents-cut}
use Rattle.syntax.specs.Syntax.{VariableDeclaration, name_of}
use Rattle.syntax.specs.Typed.{expression_at, statement_at, statements_at, variables_at}
use Rattle.syntax.proofs.Expressions.{firsts}
use Rattle.syntax.proofs.Statements.{bound}
use Rattle.syntax.proofs.Shapes.{simple-kind, simple-at, return-at, chosen, looped}
use Rattle.names.proofs.Scopes.{dropped}
use Rattle.code.specs.declared.instruction.Operation.{Operation}
use Rattle.code.specs.declared.instruction.Operation.TheVariants.{Jmp}
use Rattle.code.specs.Scheme.{op}
use Rattle.translator.specs.declared.emitter.Emitter.{Emitter}
use Rattle.translator.specs.Emitting.{SameLoans, Keeps, expression_here}
use Rattle.translator.proofs.Lists.{joined, put_as, long}
use Rattle.translator.proofs.Codes.{if-code, while-code, then-code, block-code}
use Rattle.translator.proofs.Emitters.{same_loans, kept, same_table, expression-kept, statement-kept, statements-under}
use Rattle.translator.proofs.Steps.{ready, several-ready, halfway, tested, locals, inside}
use Rattle.names.proofs.Standing.{block-parts}
use Rattle.translator.proofs.emitter.Emitter.+block_if_statement_statement_statements_while_statement.Goals as goal
use Rattle.translator.proofs.emitter.Emitter.+block_if_statement_statement_statements_while_statement.Goals.{while_statement-After-statement-next}

pub if_statement-expression-first-requires : goal.if_statement-expression-first-requires
if_statement-expression-first-requires t c =
    let p = chosen _ _ _ _ c.requires.part.within c.requires.part.sound c.requires.kind refl refl in
    record { part = record { within = p.test_within; sound = p.test }; room = omega (arith, p.whole, c.requires.room.code) }

pub if_statement-append-requires : goal.if_statement-append-requires
if_statement-append-requires t c =
    let p = chosen _ _ _ _ c.requires.part.within c.requires.part.sound c.requires.kind c.expression-first.ensures.next refl in
    omega (arith, p.whole, c.requires.room.code, c.expression-first.ensures.keeps.loans.code_capacity)

pub if_statement-statement-second-requires : goal.if_statement-statement-second-requires
if_statement-statement-second-requires t c =
    let p = chosen _ _ _ _ c.requires.part.within c.requires.part.sound c.requires.kind c.expression-first.ensures.next refl in
    let k = kept c.expression-first.ensures.keeps c.append.ensures.keeps in (
      omega (arith, p.first_within, ap length (same_table _ _ k.loans)),
      ready k.loans c.requires.room (omega (arith, k.height)) p.first_within p.first (omega (arith, p.whole)),
    )

pub if_statement-append-requires-2 : goal.if_statement-append-requires-2
if_statement-append-requires-2 t c =
    let h = halfway c.requires.part c.requires.kind c.expression-first.ensures.next c.expression-first.ensures.keeps
    c.append.ensures.keeps c.statement-second.ensures.next c.statement-second.ensures.bound in
    omega (arith, h.shape.whole, c.requires.room.code, h.keeps.loans.code_capacity, c.statement-second.ensures.keeps.loans.code_capacity)

pub if_statement-statement-next-requires : goal.if_statement-statement-next-requires
if_statement-statement-next-requires t c =
    let h = halfway c.requires.part c.requires.kind c.expression-first.ensures.next c.expression-first.ensures.keeps
    c.append.ensures.keeps c.statement-second.ensures.next c.statement-second.ensures.bound in
    let k = kept (kept (kept h.keeps c.statement-second.ensures.keeps) c.append-2.ensures.keeps) c.patch.ensures.keeps in (
      omega (arith, h.shape.second_within, ap length (same_table _ _ k.loans)),
      ready k.loans c.requires.room (omega (arith, k.height)) h.shape.second_within h.shape.second (omega (arith, h.shape.whole)),
    )

pub if_statement-returns : goal.if_statement-returns
if_statement-returns t c =
    let a : Emitter = c.args.self.now in
    let h = halfway c.requires.part c.requires.kind c.expression-first.ensures.next c.expression-first.ensures.keeps
    c.append.ensures.keeps c.statement-second.ensures.next c.statement-second.ensures.bound in
    let k = kept (kept (kept h.keeps c.statement-second.ensures.keeps) c.append-2.ensures.keeps) c.patch.ensures.keeps in
    let b = rw (same_table _ _ k.loans) at c.statement-next.ensures.bound in
    let n = rw (same_table _ _ k.loans) at c.statement-next.ensures.next in
    record {
      items = rw h.shape.is
          (if-code (reverse a.context.globals.now) a.context.functions.now a.leave (reverse (contents a.scope.now)) c.args.at
          (expression_at a.context.table.records.now (c.args.at + 1)) (statement_at a.context.table.records.now c.expression-first.result)
          (statement_at a.context.table.records.now c.statement-second.result) (vec_items a.code.now)
          _ _ _ _ _ _ _ (vec_len a.code.now) c.len-test.result (vec_len c.append.new.self.code.now)
          c.len-skip.result c.len-other.result (vec_len c.patch.new.self.code.now) c.len-end.result _ _
          (long a.code.now) (long c.expression-first.new.self.code.now ∙ sym c.len-test.ensures)
          (long c.append.new.self.code.now) (long c.statement-second.new.self.code.now ∙ sym c.len-skip.ensures)
          (long c.append-2.new.self.code.now ∙ sym c.len-other.ensures) (long c.patch.new.self.code.now)
          (long c.statement-next.new.self.code.now ∙ sym c.len-end.ensures)
          c.expression-first.ensures.items c.append.ensures.items
          (put_as _ c.statement-second.ensures.items (statement-kept a c.append.new.self h.keeps c.expression-first.result))
          c.append-2.ensures.items c.patch.ensures.items
          (put_as _ c.statement-next.ensures.items (statement-kept a c.patch.new.self k c.statement-second.result))
          c.patch-2.ensures.items);
      bound = (omega arith, omega (arith, h.shape.whole));
      keeps = kept (kept k c.statement-next.ensures.keeps) c.patch-2.ensures.keeps;
      next = omega (arith, h.shape.whole);
    }

pub while_statement-append-requires : goal.while_statement-append-requires
while_statement-append-requires t c =
    let p = looped _ _ _ c.requires.part.within c.requires.part.sound c.requires.kind refl in
    omega (arith, p.whole, c.requires.room.code)

pub while_statement-expression-body-requires : goal.while_statement-expression-body-requires
while_statement-expression-body-requires t c =
    let p = looped _ _ _ c.requires.part.within c.requires.part.sound c.requires.kind refl in
    rw (same_table _ _ c.append.ensures.keeps.loans) record {
      part = record { within = p.test_within; sound = p.test };
      room = omega (arith, p.whole, c.requires.room.code, c.append.ensures.keeps.loans.code_capacity);
    }

pub while_statement-append-requires-2 : goal.while_statement-append-requires-2
while_statement-append-requires-2 t c =
    let p = looped _ _ _ c.requires.part.within c.requires.part.sound c.requires.kind refl in
    let m = rw (same_table _ _ c.append.ensures.keeps.loans) at c.expression-body.ensures.len in
    omega (arith, p.whole, c.requires.room.code, c.append.ensures.keeps.loans.code_capacity, c.expression-body.ensures.keeps.loans.code_capacity)

pub while_statement-statement-next-requires : goal.while_statement-statement-next-requires
while_statement-statement-next-requires t c =
    let h = tested c.requires.part c.requires.kind c.append.ensures.keeps c.append.ensures.len c.expression-body.ensures.next
    c.expression-body.ensures.len c.expression-body.ensures.keeps c.append-2.ensures.keeps in (
      omega (arith, h.shape.body_within, ap length (same_table _ _ h.keeps.loans)),
      ready h.keeps.loans c.requires.room (omega (arith, h.keeps.height)) h.shape.body_within h.shape.body (omega (arith, h.shape.whole, h.shape.some, h.len)),
    )

-- After the body of a while there is room for three instructions more.
ended : (t : ℕ) (c : while_statement-After-statement-next t) →
    vec_len c.statement-next.new.self.code.now + 3 ≤ vec_capacity c.statement-next.new.self.code.now
ended t c =
    let h = tested c.requires.part c.requires.kind c.append.ensures.keeps c.append.ensures.len c.expression-body.ensures.next
    c.expression-body.ensures.len c.expression-body.ensures.keeps c.append-2.ensures.keeps in
    let b = rw (same_table _ _ h.keeps.loans) at c.statement-next.ensures.bound in
    omega (
      arith,
      h.shape.whole,
      h.shape.some,
      h.len,
      c.requires.room.code,
      h.keeps.loans.code_capacity,
      c.statement-next.ensures.keeps.loans.code_capacity,
    )

pub while_statement-append-requires-3 : goal.while_statement-append-requires-3
while_statement-append-requires-3 t c =
    omega (arith, ended t (goal.at.while_statement-append-requires-3 t c).After-statement-next)

pub while_statement-append-requires-4 : goal.while_statement-append-requires-4
while_statement-append-requires-4 t c =
    omega (arith, ended t (goal.at.while_statement-append-requires-4 t c).After-statement-next)

pub while_statement-append-requires-5 : goal.while_statement-append-requires-5
while_statement-append-requires-5 t c =
    omega (arith, ended t (goal.at.while_statement-append-requires-5 t c).After-statement-next)

pub while_statement-returns : goal.while_statement-returns
while_statement-returns t c =
    let a : Emitter = c.args.self.now in
    let h = tested c.requires.part c.requires.kind c.append.ensures.keeps c.append.ensures.len c.expression-body.ensures.next
    c.expression-body.ensures.len c.expression-body.ensures.keeps c.append-2.ensures.keeps in
    let b = rw (same_table _ _ h.keeps.loans) at c.statement-next.ensures.bound in
    let n = rw (same_table _ _ h.keeps.loans) at c.statement-next.ensures.next in
    record {
      items = rw h.shape.is
          (while-code (reverse a.context.globals.now) a.context.functions.now a.leave (reverse (contents a.scope.now)) c.args.at
          (expression_at a.context.table.records.now (c.args.at + 1)) (statement_at a.context.table.records.now c.expression-body.result)
          (vec_items a.code.now) _ _ _ _ _ _ _ _ (vec_len a.code.now)
          c.len-test.result (vec_len c.append-2.new.self.code.now) c.len-end.result _
          (long a.code.now) (long c.expression-body.new.self.code.now ∙ sym c.len-test.ensures)
          (long c.append-2.new.self.code.now) (long c.append-4.new.self.code.now ∙ sym c.len-end.ensures)
          c.append.ensures.items
          (put_as _ c.expression-body.ensures.items (expression-kept a c.append.new.self c.append.ensures.keeps (c.args.at + 1)))
          c.append-2.ensures.items
          (put_as _ c.statement-next.ensures.items (statement-kept a c.append-2.new.self h.keeps c.expression-body.result))
          c.append-3.ensures.items
          (put_as _ c.append-4.ensures.items (ap (λ (z : ℕ). op c.args.at (Jmp z) ∷ []) c.len-again.ensures))
          c.patch.ensures.items c.append-5.ensures.items);
      bound = (omega (arith, h.len), omega (arith, h.shape.whole, h.shape.some, h.len));
      keeps = search rules;
      next = omega (arith, h.shape.whole);
    }

pub block-enter-requires : goal.block-enter-requires
block-enter-requires t c =
    let p = block-parts c.requires.part c.requires.kind refl refl refl in
    record {
      parts = record { within = omega (arith, p.within); leaves = p.locals };
      names = omega (arith, p.within, c.requires.room.names);
      room = omega (arith, p.whole, c.requires.room.code);
    }

pub block-statements-next-requires : goal.block-statements-next-requires
block-statements-next-requires t c =
    let p = block-parts c.requires.part c.requires.kind refl c.statement_count.ensures refl in (
      omega (arith, p.within, ap length (same_table _ _ c.enter.ensures.loans)),
      several-ready c.enter.ensures.loans c.requires.room (omega arith) p.within p.others (omega (arith, p.whole)),
    )

pub block-append_pops-requires : goal.block-append_pops-requires
block-append_pops-requires t c =
    let h = inside c.requires.part c.requires.kind c.statement_count.ensures c.enter.ensures.loans c.statements-next.ensures.bound
    c.statements-next.ensures.keeps in
    omega (arith, h.shape.whole, h.bound.1, c.requires.room.code, h.capacity)

pub block-append-requires : goal.block-append-requires
block-append-requires t c =
    let h = inside c.requires.part c.requires.kind c.statement_count.ensures c.enter.ensures.loans c.statements-next.ensures.bound
    c.statements-next.ensures.keeps in
    omega (arith, h.shape.whole, h.bound.1, c.requires.room.code, h.capacity)

pub block-returns : goal.block-returns
block-returns t c =
    let a : Emitter = c.args.self.now in
    let k : ℕ = locals a c.args.at in
    let ds : List VariableDeclaration = variables_at a.context.table.records.now (c.args.at + 1) k in
    let h = inside c.requires.part c.requires.kind c.statement_count.ensures c.enter.ensures.loans c.statements-next.ensures.bound
    c.statements-next.ensures.keeps in
    let e : Emitter = c.append.new.self in
    let inner : Keeps c.enter.new.self e = kept (kept c.statements-next.ensures.keeps c.append_pops.ensures.keeps) c.append.ensures.keeps in
    let loans : SameLoans a e = same_loans c.enter.ensures.loans inner.loans in
    let mark : c.height-mark.result ≡ a.scope.now.height = c.height-mark.ensures in
    let n = rw (same_table _ _ c.enter.ensures.loans) at c.statements-next.ensures.next in
    record {
      items = rw h.shape.is
          (block-code (reverse a.context.globals.now) a.context.functions.now a.leave (reverse (contents a.scope.now)) c.args.at ds
          (statements_at a.context.table.records.now (c.args.at + 1 + k) c.statement_count.result) (vec_items a.code.now) _ _ _ _
          (vec_len a.code.now) (vec_len c.enter.new.self.code.now) k c.enter.ensures.len h.shape.many c.enter.ensures.items
          (put_as _ c.statements-next.ensures.items
          (statements-under a c.enter.new.self c.enter.ensures.loans c.enter.ensures.leave (c.args.at + 1 + k) c.statement_count.result c.args.at _
          (ap reverse c.enter.ensures.bound ∙ bound ds (contents a.scope.now))))
          c.append_pops.ensures.items c.append.ensures.items);
      bound = (omega (arith, h.bound.0), omega (arith, h.shape.whole, h.bound.1));
      keeps = record {
        loans = record {
          context = loans.context;
          scope = loans.scope;
          code = loans.code;
          scope_capacity = ap length c.cut.ensures.words ∙ loans.scope_capacity;
          code_capacity = loans.code_capacity;
        };
        leave = inner.leave ∙ c.enter.ensures.leave;
        names = dropped (contents a.scope.now) (map name_of (variables_at a.context.table.records.now (c.args.at + 1) (locals a c.args.at)))
            _ _ _ _ (length-contents a.scope.now (omega (arith, c.requires.room.names, c.requires.part.within)) ∙ sym mark)
            c.enter.ensures.bound inner.names
            (contents-cut e.scope.now c.cut.new.self c.height-mark.result (omega (arith, inner.height, mark)) c.cut.ensures.words
            c.cut.ensures.height);
        height = c.cut.ensures.height ∙ mark;
      };
      next = omega (arith, h.shape.whole);
    }

pub statement-expression-next-requires : goal.statement-expression-next-requires
statement-expression-next-requires t c =
    let p = return-at _ c.args.at c.requires.part.within c.requires.part.sound (sym c.in-Return.ensures) in
    record { part = record { within = p.0.test_within; sound = p.0.test }; room = omega (arith, p.0.whole, c.requires.room.code) }

pub statement-append-requires : goal.statement-append-requires
statement-append-requires t c =
    let p = return-at _ c.args.at c.requires.part.within c.requires.part.sound (sym c.in-Return.ensures) in
    omega (arith, p.0.whole, c.requires.room.code, c.expression-next.ensures.keeps.loans.code_capacity)

pub statement-expression-requires : goal.statement-expression-requires
statement-expression-requires t c =
    let p = simple-at _ c.args.at c.requires.part.within c.requires.part.sound
    (simple-kind _ c.args.at c.requires.part.within c.requires.part.sound
    (λ e. c.in_default.not-Return (c.node_kind.ensures ∙ e)) (λ e. c.in_default.not-If (c.node_kind.ensures ∙ e))
    (λ e. c.in_default.not-While (c.node_kind.ensures ∙ e)) (λ e. c.in_default.not-Block (c.node_kind.ensures ∙ e))) in
    record { part = record { within = p.0.test_within; sound = p.0.test }; room = omega (arith, p.0.whole, c.requires.room.code) }

pub statement-returns-in-Return : goal.statement-returns-in-Return
statement-returns-in-Return t c =
    let a : Emitter = c.args.self.now in
    let p = return-at _ c.args.at c.requires.part.within c.requires.part.sound (sym c.in-Return.ensures) in
    record {
      items = rw p.1
          (joined (vec_items a.code.now) (expression_here a (c.args.at + 1)) _ _ _ c.expression-next.ensures.items
          (put_as _ c.append.ensures.items (ap (λ (o : Operation). op c.args.at o ∷ []) c.expression-next.ensures.keeps.leave)));
      bound = (omega arith, omega (arith, p.0.whole));
      keeps = kept c.expression-next.ensures.keeps c.append.ensures.keeps;
      next = omega (arith, p.0.whole);
    }

pub statement-returns-in_default : goal.statement-returns-in_default
statement-returns-in_default t c =
    let p = simple-at _ c.args.at c.requires.part.within c.requires.part.sound
    (simple-kind _ c.args.at c.requires.part.within c.requires.part.sound
    (λ e. c.in_default.not-Return (c.node_kind.ensures ∙ e)) (λ e. c.in_default.not-If (c.node_kind.ensures ∙ e))
    (λ e. c.in_default.not-While (c.node_kind.ensures ∙ e)) (λ e. c.in_default.not-Block (c.node_kind.ensures ∙ e))) in
    record {
      items = rw p.1 c.expression.ensures.items;
      bound = (omega arith, omega (arith, p.0.whole));
      keeps = c.expression.ensures.keeps;
      next = omega (arith, p.0.whole);
    }

pub statements-statement-next-requires : goal.statements-statement-next-requires
statements-statement-next-requires t c =
    let a : Emitter = c.args.self.now in
    let left = c.loop.invariant in
    let p = firsts a.context.table.records.now c.loop.next (c.args.count - c.loop.counter) _ _ (omega arith) left.left.sound refl in (
      omega (arith, p.within, left.further, ap length (same_table _ _ left.keeps.loans)),
      ready left.keeps.loans c.requires.room (omega (arith, left.further, left.keeps.height)) p.within p.first
          (omega (arith, p.whole, left.bound)),
    )

pub statements-loop-preserved : goal.statements-loop-preserved
statements-loop-preserved t c =
    let a : Emitter = c.args.self.now in
    let e : Emitter = c.loop.self in
    let j : c.args.count - c.loop.counter - 1 ≡ c.args.count - (c.loop.counter + 1) = omega arith in
    let left = c.loop.invariant in
    let done = c.statement-next.ensures in
    let same = same_table a e left.keeps.loans in
    let n = rw same at done.next in
    let p = firsts a.context.table.records.now c.loop.next (c.args.count - c.loop.counter) _ _ (omega arith) left.left.sound n in
    let b = rw same at done.bound in
    rw (← j) record {
      left = record { within = omega (arith, p.ends); sound = p.others };
      items = then-code (reverse a.context.globals.now) a.context.functions.now a.leave (reverse (contents a.scope.now)) c.args.place
          (statement_at a.context.table.records.now c.loop.next)
          (statements_at a.context.table.records.now c.statement-next.result (c.args.count - c.loop.counter - 1))
          (vec_items e.code.now) _ _ (vec_len e.code.now) _ (long e.code.now) (long c.append.new.self.code.now)
          (put_as _ done.items (statement-kept a e left.keeps c.loop.next)) c.append.ensures.items
          ∙ rw p.parts at left.items;
      longer = omega (arith, left.longer);
      bound = omega (arith, p.whole, left.bound);
      keeps = kept left.keeps (kept done.keeps c.append.ensures.keeps);
      next = omega (arith, p.whole, left.next);
      further = omega (arith, p.later, left.further);
    }
