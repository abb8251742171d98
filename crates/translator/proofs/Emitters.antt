-- What is at hand after some steps: the table stays, and the code of what stands in it, under the names that stay too.
use Rattle.std.proofs.Common.{◌≡◌, ℕ, List, reverse, vec_len, ap, ◌∙◌, refl}
use Rattle.stack.specs.Store.{contents}
use Rattle.script.specs.declared.record.Record.{Record}
use Rattle.syntax.specs.Typed.{statements_at}
use Rattle.names.specs.declared.context.Context.{Context}
use Rattle.code.specs.Scheme.{block_code}
use Rattle.translator.specs.declared.emitter.Emitter.{Emitter}
use Rattle.translator.specs.Emitting.{SameLoans, Keeps, operation_here, expression_here, statement_from, statement_here}
use Rattle.translator.specs.Emitting.{statements_here}

-- Steps one after another.
pub same_loans : {a b c : Emitter} → SameLoans a b → SameLoans b c → SameLoans a c
same_loans k l = record {
  context = l.context ∙ k.context;
  scope = l.scope ∙ k.scope;
  code = l.code ∙ k.code;
  scope_capacity = l.scope_capacity ∙ k.scope_capacity;
  code_capacity = l.code_capacity ∙ k.code_capacity;
}

pub kept : {a b c : Emitter} → Keeps a b → Keeps b c → Keeps a c
kept k l = record { loans = same_loans k.loans l.loans; leave = l.leave ∙ k.leave; names = l.names ∙ k.names; height = l.height ∙ k.height }

module _ (a e : Emitter) where
  pub same_table : SameLoans a e → e.context.table.records.now ≡ a.context.table.records.now
  same_table l = ap (λ (x : Context). x.table.records.now) l.context

  -- Statements of a block, under more names.
  pub statements-under : SameLoans a e → e.leave ≡ a.leave → (at count place : ℕ) (own : List ℕ) → reverse (contents e.scope.now) ≡ own →
      statements_here e at count place
      ≡ block_code (reverse a.context.globals.now) a.context.functions.now a.leave (statements_at a.context.table.records.now at count) own
      place (vec_len e.code.now)
  statements-under l leave at count place own q = rw (l.context, leave, q) refl

  module _ (k : Keeps a e) where
    pub operation-kept : (r : Record) → operation_here e r ≡ operation_here a r
    operation-kept r = rw (k.loans.context, k.names) refl

    pub expression-kept : (at : ℕ) → expression_here e at ≡ expression_here a at
    expression-kept at = rw (k.loans.context, k.names) refl

    pub statement-kept : (at : ℕ) → statement_here e at ≡ statement_from a at (vec_len e.code.now)
    statement-kept at = rw (k.loans.context, k.names, k.leave) refl
