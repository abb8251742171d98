use Rattle.std.proofs.Common.{◌≡◌, ℕ, List, [], length, get_or, take, vec_items, vec_len, ap, arith}
use Rattle.stack.specs.Store.{contents}
use Rattle.script.specs.declared.record.Record.{Record}
use Rattle.syntax.specs.Trees.{no_record}
use Rattle.syntax.specs.Typed.{statement_at, declarations_at, program_of}
use Rattle.names.proofs.SoundTables.{program, few-declared, declared-parts, main-part}
use Rattle.translator.specs.declared.translation.Translation.{Translation}
use Rattle.translator.specs.Translations.{Held, held, nothing_held}
use Rattle.translator.proofs.Emitters.{kept, same_table}
use Rattle.translator.proofs.Lists.{long}
use Rattle.translator.proofs.Programs.{program-made}
use Rattle.translator.proofs.translation.Translation.fill.Goals as goal

empty-translation : (t : Translation) → held t ≡ nothing_held →
    (vec_len t.code ≡ 0) × (vec_len t.entries ≡ 0) × (vec_len t.globals ≡ 0)
empty-translation t h = (
  omega (arith, long t.code, ap (λ (x : Held). length x.code) h),
  omega (arith, long t.entries, ap (λ (x : Held). length x.entries) h),
  omega (arith, long t.globals, ap (λ (x : Held). length x.globals) h),
)

pub statement-requires : goal.statement-requires
statement-requires c =
    let p = program c.args.context.table c.args.main c.requires.after in
    let none = empty-translation c.clear.new.self c.clear.ensures in
    record {
      part = main-part c.args.context.table c.args.main c.requires.after;
      room = record {
        names = omega (arith, c.new-scope.ensures.height, c.args.context.table.few, ap length c.new-scope.ensures.words);
        code = omega (arith, p.ends, c.args.context.table.few, c.clear.new.self.room.0, none.0);
      };
    }

pub append-requires : goal.append-requires
append-requires c =
    let p = program c.args.context.table c.args.main c.requires.after in
    let none = empty-translation c.clear.new.self c.clear.ensures in
    omega (
      arith,
      p.ends,
      c.args.context.table.few,
      c.clear.new.self.room.0,
      none.0,
      c.statement.ensures.keeps.loans.code_capacity,
    )

pub declarations-requires : goal.declarations-requires
declarations-requires c =
    let p = program c.args.context.table c.args.main c.requires.after in
    let none = empty-translation c.clear.new.self c.clear.ensures in
    let few = few-declared c.args.context.table in
    let k = kept c.statement.ensures.keeps c.append.ensures.keeps in
    let same = same_table _ c.append.new.self k.loans in
    record {
      parts = rw same (declared-parts c.args.context.table);
      room = record {
        names = omega (arith, c.args.context.table.few, ap length same, k.loans.scope_capacity, ap length c.new-scope.ensures.words);
        code = rw same
            (omega (
              arith,
              p.ends,
              c.requires.after,
              c.args.context.table.few,
              c.clear.new.self.room.0,
              none.0,
              k.loans.code_capacity,
            ));
      };
      free = (omega (arith, few, c.clear.new.self.room.1, none.1), omega (arith, few, c.clear.new.self.room.2, none.2));
    }

pub returns-clause-made : goal.returns-clause-made
returns-clause-made c =
    let table : List Record = c.args.context.table.records.now in
    let k : ℕ = (get_or table 0 no_record).a in
    let p = program c.args.context.table c.args.main c.requires.after in
    let none = c.clear.ensures in
    let loans = (kept c.statement.ensures.keeps c.append.ensures.keeps).loans in
    let empty : contents c.new-scope.result ≡ [] =
    ap (λ (h : ℕ). take h c.new-scope.result.words.now) c.new-scope.ensures.height in
    program-made (program_of table) (declarations_at table 1 k) (statement_at table c.args.main) p.is c.args.context.globals.now
    c.args.context.functions.now c.requires.variables c.requires.signatures (contents c.new-scope.result) empty
    (vec_items c.clear.new.self.code) _ _ (vec_len c.clear.new.self.code) (vec_len c.append.new.self.code.now)
    (ap (λ (h : Held). h.code) none) (empty-translation c.clear.new.self none).0 (long c.append.new.self.code.now)
    c.statement.ensures.items c.append.ensures.items
    _ _ _ _ _ (rw loans.context at c.declarations.ensures.items)
    (ap (λ (h : Held). h.entries) none) (rw loans.context at c.declarations.ensures.entry)
    (ap (λ (h : Held). h.globals) none) (rw loans.context at c.declarations.ensures.number)

pub returns-clause-short : goal.returns-clause-short
returns-clause-short c =
    let p = program c.args.context.table c.args.main c.requires.after in
    let same = same_table _ c.append.new.self (kept c.statement.ensures.keeps c.append.ensures.keeps).loans in
    let b = rw same at c.declarations.ensures.bound in
    omega (
      arith,
      p.ends,
      c.requires.after,
      c.statement.ensures.bound.1,
      long c.declarations.new.self.code.now,
      (empty-translation c.clear.new.self c.clear.ensures).0,
    )
