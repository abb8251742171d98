-- A block, and a statement that is none: what their parts are answered is what they are.
use Rattle.std.proofs.Common.{◌≡◌, ℕ, ◌+◌, List, ◌++◌, map, reverse, Ok, Err, Result, arith}
use Rattle.script.specs.declared.record.Record.{Record}
use Rattle.script.specs.declared.refusal.Refusal.{Refusal}
use Rattle.syntax.specs.Syntax.{VariableDeclaration, Expression, Statements, name_of, bind_names}
use Rattle.syntax.specs.Trees.{pieces, sizes}
use Rattle.syntax.specs.Typed.{expression_at, statements_at, variables_at}
use Rattle.syntax.proofs.Statements.{Blocked, Stated}
use Rattle.names.specs.declared.context.Context.{Context}
use Rattle.names.specs.declared.signature.Signature.{Signature}
use Rattle.names.specs.Names.{expression_rules, local_rules, block_rules}
use Rattle.names.specs.Passes.{checked_expression, checked_locals, checked_statement, checked_statements}
use Rattle.names.proofs.Outcomes.{refused, went, on}
use Rattle.names.proofs.Rules.{statement-rules}
use Rattle.names.proofs.Scopes.{inner-scope}

module _ (c : Context) (scope : List ℕ) (at n m : ℕ) where
  abbrev globals : List ℕ
  globals = reverse c.globals.now

  abbrev functions : List Signature
  functions = c.functions.now

  abbrev ss : Statements
  ss = statements_at c.table.records.now m n

  -- the index after the statements
  abbrev end : ℕ
  end = m + sizes (pieces c.table.records.now m n)

  module _ (k : ℕ) (p : Blocked c.table.records.now at k n m) where
    abbrev ds : List VariableDeclaration
    ds = variables_at c.table.records.now (at + 1) k

    pub locals-refused : (y : Refusal) → Err y ≡ checked_locals c k (at + 1) scope → Err y ≡ checked_statement c at scope
    locals-refused y h = rw p.is (refused _ _ _ _ y h)

    pub block-answered : (inner : List ℕ) (r : Result ℕ Refusal) → Ok m ≡ checked_locals c k (at + 1) scope →
        inner ≡ scope ++ map name_of ds → r ≡ checked_statements c n m inner → r ≡ checked_statement c at scope
    block-answered inner r h e q =
        let w = went _ _ m h in
        rw p.is (on (local_rules globals ds (reverse scope)) (block_rules globals functions ss (bind_names ds (reverse scope)))
        end _ r w.0 (omega (arith, w.1, p.whole)) (inner-scope globals functions ss end r ds scope inner e q))

  module _ (node : Record) (p : Stated c.table.records.now at n m node) where
    abbrev e : Expression
    e = expression_at c.table.records.now (at + 1)

    pub test-refused : (y : Refusal) → Err y ≡ checked_expression c (at + 1) scope → Err y ≡ checked_statement c at scope
    test-refused y h =
        rw (statement-rules globals functions (reverse scope) c.table.records.now at n m node p) (refused _ _ _ _ y h)

    pub plain-answered : (r : Result ℕ Refusal) → Ok m ≡ checked_expression c (at + 1) scope →
        r ≡ checked_statements c n m scope → r ≡ checked_statement c at scope
    plain-answered r h q =
        let w = went _ _ m h in
        rw (statement-rules globals functions (reverse scope) c.table.records.now at n m node p)
        (on (expression_rules globals functions e (reverse scope)) (block_rules globals functions ss (reverse scope)) end _
        r w.0 (omega (arith, w.1, p.whole)) q)
