-- The parts of each kind of statement by name: an expression statement, a return, an if and a while.
use Rattle.std.proofs.Common.{◌≡◌, ℕ, suc, ◌+◌, ◌<◌, T, List, [], ◌∷◌, length, get_or, refl, ap, ◌∙◌, arith}
use Rattle.script.specs.declared.record.Record.{Record}
use Rattle.script.specs.declared.rows.Sort.TheVariants.{Expression as ExpressionSort, Statement as StatementSort}
use Rattle.script.specs.declared.rows.NodeKind.{NodeKind}
use Rattle.script.specs.declared.rows.NodeKind.TheVariants as is
use Rattle.script.specs.Rows.{suits}
use Rattle.script.specs.Rows.{wants}
use Rattle.syntax.specs.Syntax.{evaluate, if_else, while, give_back}
use Rattle.syntax.specs.Trees.{Forest, node, none, more, arity, size, pieces, tree_at, Sound, no_record}
use Rattle.syntax.specs.Typed.{make_statement, arguments_of, variables_in, statement_of, statements_of, expression_at, statement_at, node_at}
use Rattle.syntax.proofs.NodeKinds.{row_for, suited, by-statement}
use Rattle.syntax.proofs.Forests.{here, next, first-sound}
use Rattle.syntax.proofs.Expressions.{some_size}
use Rattle.syntax.proofs.Statements.{opened}

-- A statement of one expression.
pub record Tested (table : List Record) (at : ℕ) : Type 0 where
  pub test_within : at + 1 < length table
  pub test : Sound (tree_at table (at + 1)) ExpressionSort
  pub whole : size (tree_at table at) ≡ suc (size (tree_at table (at + 1)))

remaining : (q : NodeKind) → T (suits StatementSort (row_for q).sort) →
    (q ≡ is.Return → ⊥) → (q ≡ is.If → ⊥) → (q ≡ is.While → ⊥) → (q ≡ is.Block → ⊥) → q ≡ is.ExpressionStatement
remaining =
    by-statement (λ q. (q ≡ is.Return → ⊥) → (q ≡ is.If → ⊥) → (q ≡ is.While → ⊥) → (q ≡ is.Block → ⊥) → q ≡ is.ExpressionStatement)
    (λ a b c d. refl) (λ a b c d. absurd (b refl)) (λ a b c d. absurd (c refl)) (λ a b c d. absurd (a refl)) (λ a b c d. absurd (d refl))

module _ (table : List Record) (at : ℕ) (h : at < length table) (s : Sound (tree_at table at) StatementSort) where
  -- A statement that is none of the others is an expression statement.
  pub simple-kind : (node_at table at ≡ is.Return → ⊥) → (node_at table at ≡ is.If → ⊥) → (node_at table at ≡ is.While → ⊥) →
      (node_at table at ≡ is.Block → ⊥) → node_at table at ≡ is.ExpressionStatement
  simple-kind a b c d =
      let s' : Sound (node at (get_or table at no_record) (pieces table (at + 1) (arity (get_or table at no_record)))) StatementSort =
      rw (here table at no_record h) at s in
      remaining (node_at table at) (suited StatementSort (get_or table at no_record) at _ s'.0) a b c d

  alone : (q : NodeKind) → node_at table at ≡ q → wants (row_for q) (get_or table at no_record) ≡ ExpressionSort ∷ [] →
      Tested table at × (tree_at table at ≡ node at (get_or table at no_record) (more (tree_at table (at + 1)) none))
  alone q b f =
      let r : Record = get_or table at no_record in
      let o = opened table at no_record StatementSort h s (ExpressionSort ∷ []) (λ i. ap (λ (z : NodeKind). wants (row_for z) r) b ∙ f) in
      let p = first-sound table (at + 1) 0 ExpressionSort [] o.sound in
      let t = o.tree ∙ ap (node at r) (next table (at + 1) 0 p.0) in
      (record { test_within = p.0; test = p.1; whole = ap size t ∙ omega arith }, t)

  pub made_of : (q : NodeKind) (ts : Forest) → node_at table at ≡ q → tree_at table at ≡ node at (get_or table at no_record) ts →
      statement_at table at ≡ make_statement q at (get_or table at no_record) (arguments_of ts) (variables_in ts) (statements_of ts)
  made_of q ts b t =
      ap statement_of t
      ∙ ap (λ (z : NodeKind). make_statement z at (get_or table at no_record) (arguments_of ts) (variables_in ts) (statements_of ts)) b

  pub simple-at : node_at table at ≡ is.ExpressionStatement → Tested table at × (statement_at table at ≡ evaluate at (expression_at table (at + 1)))
  simple-at b = let p = alone is.ExpressionStatement b refl in (p.0, made_of is.ExpressionStatement _ b p.1)

  pub return-at : node_at table at ≡ is.Return → Tested table at × (statement_at table at ≡ give_back at (expression_at table (at + 1)))
  return-at b = let p = alone is.Return b refl in (p.0, made_of is.Return _ b p.1)

-- An if: an expression and two statements, at m and at n.
pub record Chosen (table : List Record) (at m n : ℕ) : Type 0 where
  pub test_within : at + 1 < length table
  pub test : Sound (tree_at table (at + 1)) ExpressionSort
  pub first_within : m < length table
  pub first : Sound (tree_at table m) StatementSort
  pub second_within : n < length table
  pub second : Sound (tree_at table n) StatementSort
  pub whole : size (tree_at table at) ≡ suc (size (tree_at table (at + 1)) + (size (tree_at table m) + size (tree_at table n)))
  pub is : statement_at table at ≡ if_else at (expression_at table (at + 1)) (statement_at table m) (statement_at table n)

pub chosen : (table : List Record) (at m n : ℕ) → at < length table → Sound (tree_at table at) StatementSort → node_at table at ≡ is.If →
    m ≡ at + 1 + size (tree_at table (at + 1)) → n ≡ m + size (tree_at table m) → Chosen table at m n
chosen table at m n h s b em en =
    let r : Record = get_or table at no_record in
    let o = opened table at no_record StatementSort h s (ExpressionSort ∷ StatementSort ∷ StatementSort ∷ []) (λ i. ap (λ (z : NodeKind). wants (row_for z) r) b) in
    let p = first-sound table (at + 1) 2 ExpressionSort (StatementSort ∷ StatementSort ∷ []) o.sound in
    let q = first-sound table m 1 StatementSort (StatementSort ∷ []) (rw em p.2) in
    let u = first-sound table n 0 StatementSort [] (rw en q.2) in
    let x₁ : pieces table (at + 1) 3 ≡ more (tree_at table (at + 1)) (pieces table m 2) = rw em (next table (at + 1) 2 p.0) in
    let x₂ : pieces table m 2 ≡ more (tree_at table m) (pieces table n 1) = rw en (next table m 1 q.0) in
    let x₃ : pieces table n 1 ≡ more (tree_at table n) none = next table n 0 u.0 in
    let x = x₁ ∙ ap (more (tree_at table (at + 1))) (x₂ ∙ ap (more (tree_at table m)) x₃) in
    let t = o.tree ∙ ap (node at r) x in
    record {
      test_within = p.0;
      test = p.1;
      first_within = q.0;
      first = q.1;
      second_within = u.0;
      second = u.1;
      whole = ap size t ∙ omega arith;
      is = made_of table at h s is.If _ b t;
    }

-- A while: an expression and a statement, at m.
pub record Looped (table : List Record) (at m : ℕ) : Type 0 where
  pub test_within : at + 1 < length table
  pub test : Sound (tree_at table (at + 1)) ExpressionSort
  pub body_within : m < length table
  pub body : Sound (tree_at table m) StatementSort
  pub whole : size (tree_at table at) ≡ suc (size (tree_at table (at + 1)) + size (tree_at table m))
  pub some : 0 < size (tree_at table (at + 1))
  pub is : statement_at table at ≡ while at (expression_at table (at + 1)) (statement_at table m)

pub looped : (table : List Record) (at m : ℕ) → at < length table → Sound (tree_at table at) StatementSort → node_at table at ≡ is.While →
    m ≡ at + 1 + size (tree_at table (at + 1)) → Looped table at m
looped table at m h s b em =
    let r : Record = get_or table at no_record in
    let o = opened table at no_record StatementSort h s (ExpressionSort ∷ StatementSort ∷ []) (λ i. ap (λ (z : NodeKind). wants (row_for z) r) b) in
    let p = first-sound table (at + 1) 1 ExpressionSort (StatementSort ∷ []) o.sound in
    let q = first-sound table m 0 StatementSort [] (rw em p.2) in
    let x₁ : pieces table (at + 1) 2 ≡ more (tree_at table (at + 1)) (pieces table m 1) = rw em (next table (at + 1) 1 p.0) in
    let x₂ : pieces table m 1 ≡ more (tree_at table m) none = next table m 0 q.0 in
    let t = o.tree ∙ ap (node at r) (x₁ ∙ ap (more (tree_at table (at + 1))) x₂) in
    record {
      test_within = p.0;
      test = p.1;
      body_within = q.0;
      body = q.1;
      whole = ap size t ∙ omega arith;
      some = some_size (tree_at table (at + 1));
      is = made_of table at h s is.While _ b t;
    }
