-- A statement that is no block is an expression and then statements; a block is declarations and then statements.
use Rattle.std.proofs.Common.{◌≡◌, ℕ, zero, suc, ◌+◌, ◌-◌, ◌<◌, ◌≤◌, T, List, [], ◌∷◌, ◌++◌, map, reverse, length, get_or, take, drop, replicate, sym, refl, ap, ◌∙◌, subst, append_assoc, append-nil, add-zero, add_assoc, suc-add, zero-add, arith, length-append, length-drop}
use lib.ListN.{length-replicate}
use Rattle.std.proofs.lemmas.List.{take_at, reverse-append}
use Rattle.script.specs.declared.record.Record.{Record}
use Rattle.script.specs.declared.rows.Row.{Row}
use Rattle.script.specs.declared.rows.Sort.{Sort}
use Rattle.script.specs.declared.rows.Sort.TheVariants.{Expression as ExpressionSort, Statement as StatementSort, Variable as VariableSort, Parameter as ParameterSort}
use Rattle.script.specs.declared.rows.NodeKind.{NodeKind}
use Rattle.script.specs.declared.rows.NodeKind.TheVariants as is
use Rattle.script.specs.Rows.{row_of, node_of, amount, natural, suits}
use Rattle.script.specs.Rows.{wants}
use Rattle.syntax.specs.Syntax.{VariableDeclaration, declare, Expression, Statement, evaluate, if_else, while, give_back, block}
use Rattle.syntax.specs.Syntax.{Statements, no_statement, then, name_of, bind_names}
use Rattle.syntax.specs.Trees.{Tree, Forest, node, none, more, arity, size, sizes, pieces, tree_at, forest, Sound, Sounds, Leaves}
use Rattle.syntax.specs.Typed.{make_statement, expression_of, arguments_of, statement_of, statements_of, variables_in, variable_of}
use Rattle.syntax.specs.Typed.{first_statement, drop_statements, no_expression, expression_at, statement_at, statements_at, variables_at, second_parts}
use Rattle.syntax.proofs.NodeKinds.{row_for, row_is, suited, by-statement, Only, only-variable, only-parameter}
use Rattle.syntax.proofs.Forests.{no-tree, one-tree, two-trees, here, next, long, first-sound}
use Rattle.syntax.proofs.Expressions.{some_size}

-- ---- trees after trees

unfoldable pub join : Forest → Forest → Forest
join none us = us
join (more t ts) us = more t (join ts us)

unfoldable pub count : Forest → ℕ
count none = 0
count (more t ts) = suc (count ts)

pub counts : (ts : Forest) (ws : List Sort) → Sounds ts ws → count ts ≡ length ws
unfolding count
counts none [] s = refl
counts none (w ∷ ws) s = absurd s
counts (more t ts) [] s = absurd s
counts (more t ts) (w ∷ ws) s = ap suc (counts ts ws s.1)

drop-join : (ts us : Forest) → drop_statements (count ts) (statements_of (join ts us)) ≡ statements_of us
unfolding count join
drop-join none us = refl
drop-join (more t ts) us = drop-join ts us

variables-join : (ts us : Forest) → variables_in (join ts us) ≡ variables_in ts ++ variables_in us
unfolding join
variables-join none us = refl
variables-join (more t ts) us = ap (λ (l : List VariableDeclaration). variable_of t ∷ l) (variables-join ts us)

pub count-variables : (ts : Forest) → length (variables_in ts) ≡ count ts
unfolding count
count-variables none = refl
count-variables (more t ts) = ap suc (count-variables ts)

pub sizes-join : (ts us : Forest) → sizes (join ts us) ≡ sizes ts + sizes us
unfolding join
sizes-join none us = sym (zero-add _)
sizes-join (more t ts) us = ap (λ (m : ℕ). size t + m) (sizes-join ts us) ∙ sym (add_assoc _ _ _)

pub drop-at-join : (n : ℕ) (ts us : Forest) → count ts ≡ n → drop_statements n (statements_of (join ts us)) ≡ statements_of us
drop-at-join n ts us e = ap (λ (y : ℕ). drop_statements y (statements_of (join ts us))) (sym e) ∙ drop-join ts us

pub take-at-join : (n : ℕ) (ts us : Forest) → count ts ≡ n → take n (variables_in (join ts us)) ≡ variables_in ts
take-at-join n ts us e = ap (take n) (variables-join ts us) ∙ take_at (variables_in ts) (variables_in us) n (count-variables ts ∙ e)

-- Wants after wants: the trees for the first, and those for the second from where they end.
pub record Split (table : List Record) (at n : ℕ) (us vs : List Sort) : Type 0 where
  pub firsts : Sounds (pieces table at (length us)) us
  pub seconds : Sounds (pieces table (at + sizes (pieces table at (length us))) n) vs
  pub both : pieces table at (length us + n)
      ≡ join (pieces table at (length us)) (pieces table (at + sizes (pieces table at (length us))) n)

pub split : (table : List Record) (at n : ℕ) (us vs : List Sort) → Sounds (pieces table at (length us + n)) (us ++ vs) → Split table at n us vs
unfolding join
split table at n [] vs s =
    let e : 0 + n ≡ n = zero-add n in
    let f : at + 0 ≡ at = add-zero at in
    record { firsts = tt; seconds = rw f (rw e at s); both = rw (e, f) refl }
split table at n (u ∷ us) vs s =
    let p = first-sound table at (length us + n) u (us ++ vs) (rw (suc-add (length us) n) at s) in
    let m : ℕ = at + size (tree_at table at) in
    let q = split table m n us vs p.2 in
    let e : pieces table at (suc (length us)) ≡ more (tree_at table at) (pieces table m (length us)) = next table at (length us) p.0 in
    let f : at + sizes (pieces table at (suc (length us))) ≡ m + sizes (pieces table m (length us)) = omega (arith, ap sizes e) in
    record {
      firsts = rw e (p.1, q.firsts);
      seconds = rw f q.seconds;
      both = ap (pieces table at) (suc-add (length us) n)
          ∙ (next table at (length us + n) p.0 ∙ rw (f, e) (ap (more (tree_at table at)) q.both));
    }

-- The parts of a record by what its row wants.
pub record Opened (table : List Record) (at : ℕ) (r : Record) (w : Sort) (ws : List Sort) : Type 0 where
  pub suits_it : T (suits w (row_for (node_of r.kind)).sort)
  pub sound : Sounds (pieces table (at + 1) (length ws)) ws
  pub tree : tree_at table at ≡ node at r (pieces table (at + 1) (length ws))

pub opened : (table : List Record) (at : ℕ) (d : Record) (w : Sort) → at < length table → Sound (tree_at table at) w → (ws : List Sort) →
    (T (suits w (row_for (node_of (get_or table at d).kind)).sort) → wants (row_for (node_of (get_or table at d).kind)) (get_or table at d) ≡ ws) →
    Opened table at (get_or table at d) w ws
opened table at d w h s ws f =
    let r : Record = get_or table at d in
    let s' : Sound (node at r (pieces table (at + 1) (arity r))) w = rw (here table at d h) at s in
    let i = suited w r at _ s'.0 in
    let e : wants (row_of r.kind) r ≡ ws = rw (row_is r.kind) (f i) in
    record {
      suits_it = i;
      sound = rw e at s'.1;
      tree = here table at d h ∙ ap (λ (x : List Sort). node at r (pieces table (at + 1) (length x))) e;
    }

-- ---- a statement that is no block

-- Its expression, and the statements that follow that.
abbrev pub test_of : Statement → Expression
test_of (evaluate a e) = e
test_of (if_else a e s t) = e
test_of (while a e s) = e
test_of (give_back a e) = e
test_of (block a ds ss) = no_expression

abbrev pub bodies_of : Statement → Statements
bodies_of (evaluate a e) = no_statement
bodies_of (if_else a e s t) = then s (then t no_statement)
bodies_of (while a e s) = then s no_statement
bodies_of (give_back a e) = no_statement
bodies_of (block a ds ss) = ss

abbrev pub NoBlock : Statement → Type 0
NoBlock (evaluate a e) = Unit {0}
NoBlock (if_else a e s t) = Unit {0}
NoBlock (while a e s) = Unit {0}
NoBlock (give_back a e) = Unit {0}
NoBlock (block a ds ss) = ⊥

pub wants-are : (r : Record) (q : NodeKind) → T (suits StatementSort (row_for q).sort) → (q ≡ is.Block → ⊥) →
    wants (row_for q) r ≡ ExpressionSort ∷ replicate (amount (row_for q).second.count r) StatementSort
wants-are r =
    by-statement (λ q. (q ≡ is.Block → ⊥) → wants (row_for q) r ≡ ExpressionSort ∷ replicate (amount (row_for q).second.count r) StatementSort)
    (λ b. refl) (λ b. refl) (λ b. refl) (λ b. refl) (λ b. absurd (b refl))

no-bodies : (us : Forest) → Sounds us [] → no_statement ≡ statements_of us
no-bodies us s = sym (ap statements_of (no-tree us s))

one-body : (us : Forest) (w : Sort) → Sounds us (w ∷ []) → then (first_statement (statements_of us)) no_statement ≡ statements_of us
one-body us w s = rw (one-tree us w s) refl

two-bodies : (us : Forest) (w z : Sort) → Sounds us (w ∷ z ∷ []) →
    then (first_statement (statements_of us)) (then (first_statement (drop_statements 1 (statements_of us))) no_statement) ≡ statements_of us
two-bodies us w z s = rw (two-trees us w z s) refl

-- A statement made of a tree t and trees us.
abbrev pub made : NodeKind → ℕ → Record → Tree → Forest → Statement
made q p r t us = make_statement q p r (arguments_of (more t us)) (variables_in (more t us)) (statements_of (more t us))

pub record Parts (s : Statement) (t : Tree) (us : Forest) : Type 0 where
  pub plain : NoBlock s
  pub test : test_of s ≡ expression_of t
  pub bodies : bodies_of s ≡ statements_of us

pub parts_are : (p : ℕ) (r : Record) (t : Tree) (us : Forest) (q : NodeKind) → T (suits StatementSort (row_for q).sort) → (q ≡ is.Block → ⊥) →
    Sounds us (replicate (amount (row_for q).second.count r) StatementSort) → Parts (made q p r t us) t us
parts_are p r t us =
    by-statement
    (λ q. (q ≡ is.Block → ⊥) → Sounds us (replicate (amount (row_for q).second.count r) StatementSort) → Parts (made q p r t us) t us)
    (λ b s. record { plain = tt; test = refl; bodies = no-bodies us s })
    (λ b s. record { plain = tt; test = refl; bodies = two-bodies us StatementSort StatementSort s })
    (λ b s. record { plain = tt; test = refl; bodies = one-body us StatementSort s })
    (λ b s. record { plain = tt; test = refl; bodies = no-bodies us s })
    (λ b s. absurd (b refl))

-- A statement at an index that is no block: its expression at the next record, and n statements from m on.
pub record Stated (table : List Record) (at n m : ℕ) (r : Record) : Type 0 where
  pub within : at + 1 < length table
  pub test_sound : Sound (tree_at table (at + 1)) ExpressionSort
  pub others : Sounds (pieces table m n) (replicate n StatementSort)
  pub whole : size (tree_at table at) ≡ suc (size (tree_at table (at + 1)) + sizes (pieces table m n))
  pub some : 0 < size (tree_at table (at + 1))
  pub ends : m + sizes (pieces table m n) ≤ length table
  pub suits_it : T (suits StatementSort (row_for (node_of r.kind)).sort)
  pub is : statement_at table at ≡ made (node_of r.kind) at r (tree_at table (at + 1)) (pieces table m n)
  pub plain : NoBlock (statement_at table at)
  pub test : test_of (statement_at table at) ≡ expression_at table (at + 1)
  pub bodies : bodies_of (statement_at table at) ≡ statements_at table m n

pub stated : (table : List Record) (at n m : ℕ) (d : Record) → at < length table → Sound (tree_at table at) StatementSort →
    (node_of (get_or table at d).kind ≡ is.Block → ⊥) → n ≡ second_parts (get_or table at d) → m ≡ at + 1 + size (tree_at table (at + 1)) →
    Stated table at n m (get_or table at d)
stated table at n m d h s b en em =
    let r : Record = get_or table at d in
    let q : NodeKind = node_of r.kind in
    let k : n ≡ amount (row_for q).second.count r = en ∙ rw (row_is r.kind) refl in
    let o = opened table at d StatementSort h s (ExpressionSort ∷ replicate n StatementSort) (λ i. rw k (wants-are r q i b)) in
    let len : length (replicate n StatementSort) ≡ n = length-replicate n StatementSort in
    let so : Sounds (pieces table (at + 1) (suc n)) (ExpressionSort ∷ replicate n StatementSort) =
    subst (λ (x : ℕ). Sounds (pieces table (at + 1) (suc x)) (ExpressionSort ∷ replicate n StatementSort)) len o.sound in
    let f = first-sound table (at + 1) n ExpressionSort (replicate n StatementSort) so in
    let ts : Forest = pieces table (at + 1 + size (tree_at table (at + 1))) n in
    let x : pieces table (at + 1) (suc n) ≡ more (tree_at table (at + 1)) ts = next table (at + 1) n f.0 in
    let t : tree_at table at ≡ node at r (more (tree_at table (at + 1)) ts) =
    o.tree ∙ (ap (λ (y : ℕ). node at r (pieces table (at + 1) (suc y))) len ∙ ap (node at r) x) in
    let u = parts_are at r (tree_at table (at + 1)) ts q o.suits_it b (subst (λ (y : ℕ). Sounds ts (replicate y StatementSort)) k f.2) in
    let e = ap statement_of t in
    let l : at + 1 + sizes (pieces table (at + 1) (suc n)) ≤ length table = long table (at + 1) (suc n) (omega arith) in
    rw em record {
      within = f.0;
      test_sound = f.1;
      others = f.2;
      whole = ap size t;
      some = some_size (tree_at table (at + 1));
      ends = omega (arith, ap sizes x);
      suits_it = o.suits_it;
      is = e;
      plain = rw e u.plain;
      test = ap test_of e ∙ u.test;
      bodies = ap bodies_of e ∙ u.bodies;
    }

-- ---- declarations of one record

-- A tree of a sort whose one kind has no parts is one record.
leaf : (w : Sort) (k : NodeKind) → Only w k → ((r : Record) → wants (row_for k) r ≡ []) → (t : Tree) → Sound t w → size t ≡ 1
leaf w k only f (node p r us) s =
    let e : node_of r.kind ≡ k = only (node_of r.kind) (suited w r p _ s.0) in
    let w : wants (row_of r.kind) r ≡ [] = rw (row_is r.kind, e) (f r) in
    ap (λ ts. suc (sizes ts)) (no-tree us (rw w at s.1))

pub leaf-variable : (t : Tree) → Sound t VariableSort → size t ≡ 1
leaf-variable = leaf VariableSort is.VariableDeclaration only-variable (λ r. refl)

pub leaf-parameter : (t : Tree) → Sound t ParameterSort → size t ≡ 1
leaf-parameter = leaf ParameterSort is.Parameter only-parameter (λ r. refl)

pub leaves : (w : Sort) → ((t : Tree) → Sound t w → size t ≡ 1) → (ts : Forest) (n : ℕ) → Sounds ts (replicate n w) → Leaves n ts
leaves w f none zero s = tt
leaves w f none (suc n) s = absurd s
leaves w f (more t ts) zero s = absurd s
leaves w f (more t ts) (suc n) s = (f t s.0, leaves w f ts n s.1)

pub leaves-size : (ts : Forest) (n : ℕ) → Leaves n ts → sizes ts ≡ n
leaves-size none zero s = refl
leaves-size none (suc n) s = absurd s
leaves-size (more t ts) zero s = absurd s
leaves-size (more t ts) (suc n) s = omega (arith, s.0, leaves-size ts n s.1)

-- ---- a block

-- A block at an index: k declarations from the next record on, and n statements from m on.
pub record Blocked (table : List Record) (at k n m : ℕ) : Type 0 where
  pub locals : Leaves k (pieces table (at + 1) k)
  pub others : Sounds (pieces table m n) (replicate n StatementSort)
  pub many : length (variables_at table (at + 1) k) ≡ k
  pub whole : size (tree_at table at) ≡ suc (k + sizes (pieces table m n))
  pub within : m ≤ length table
  pub ends : m + sizes (pieces table m n) ≤ length table
  pub is : statement_at table at ≡ block at (variables_at table (at + 1) k) (statements_at table m n)

pub blocked : (table : List Record) (at k n m : ℕ) (d : Record) → at < length table → Sound (tree_at table at) StatementSort →
    node_of (get_or table at d).kind ≡ is.Block → k ≡ (get_or table at d).a → n ≡ second_parts (get_or table at d) → m ≡ at + 1 + k →
    Blocked table at k n m
blocked table at k n m d h s b ek en em =
    let r : Record = get_or table at d in
    let rb : row_of r.kind ≡ row_for is.Block = row_is r.kind ∙ ap row_for b in
    let en' : n ≡ natural r.v = en ∙ ap (λ (z : Row). amount z.second.count r) rb in
    let us : List Sort = replicate k VariableSort in
    let vs : List Sort = replicate n StatementSort in
    let lu : length us ≡ k = length-replicate k VariableSort in
    let lv : length vs ≡ n = length-replicate n StatementSort in
    let o = opened table at d StatementSort h s (us ++ vs) (λ i. rw (ek, en') (ap (λ (z : NodeKind). wants (row_for z) r) b)) in
    let la : length (us ++ vs) ≡ length us + n = length-append us vs ∙ ap (λ (y : ℕ). length us + y) lv in
    let p = split table (at + 1) n us vs (subst (λ (y : ℕ). Sounds (pieces table (at + 1) y) (us ++ vs)) la o.sound) in
    let fs : Forest = pieces table (at + 1) (length us) in
    let lf : Leaves k fs = leaves VariableSort leaf-variable fs k p.firsts in
    let zf : sizes fs ≡ k = leaves-size fs k lf in
    let gs : Forest = pieces table (at + 1 + sizes fs) n in
    let t : tree_at table at ≡ node at r (join fs gs) =
    o.tree ∙ (ap (λ (y : ℕ). node at r (pieces table (at + 1) y)) la ∙ ap (node at r) p.both) in
    let cf : count fs ≡ k = counts fs us p.firsts ∙ lu in
    let cd : length (variables_in fs) ≡ k = count-variables fs ∙ cf in
    let e : statement_at table at ≡ block at (take r.a (variables_in (join fs gs))) (drop_statements r.a (statements_of (join fs gs))) =
    ap statement_of t
    ∙ ap (λ (z : NodeKind). make_statement z at r (arguments_of (join fs gs)) (variables_in (join fs gs)) (statements_of (join fs gs))) b in
    let e₁ : take r.a (variables_in (join fs gs)) ≡ variables_in fs = rw (← ek) (take-at-join k fs gs cf) in
    let e₂ : drop_statements r.a (statements_of (join fs gs)) ≡ statements_of gs = rw (← ek) (drop-at-join k fs gs cf) in
    let mm : at + 1 + sizes fs ≡ m = omega arith in
    let z = ap size t in
    let l : at + 1 + sizes fs ≤ length table = long table (at + 1) (length us) (omega arith) in
    let l₂ : at + 1 + sizes fs + sizes gs ≤ length table = long table (at + 1 + sizes fs) n l in
    subst (λ (y : ℕ). Blocked table at k n y) mm record {
      locals = subst (λ (y : ℕ). Leaves k (pieces table (at + 1) y)) lu lf;
      others = p.seconds;
      many = subst (λ (y : ℕ). length (variables_at table (at + 1) y) ≡ k) lu cd;
      whole = omega (arith, z, sizes-join fs gs);
      within = l;
      ends = l₂;
      is = e ∙ (rw (e₁, e₂) (ap (λ (y : ℕ). block at (variables_at table (at + 1) y) (statements_of gs)) lu));
    }

-- Names bound one after another, oldest first.
pub bound : (ds : List VariableDeclaration) (ns : List ℕ) → reverse (ns ++ map name_of ds) ≡ bind_names ds (reverse ns)
bound [] ns = ap reverse (append-nil ns)
bound (declare a x v ∷ ds) ns =
    ap reverse (sym (append_assoc ns (x ∷ []) (map name_of ds)))
    ∙ (bound ds (ns ++ x ∷ []) ∙ ap (bind_names ds) (reverse-append ns (x ∷ [])))

-- Several declarations of one record each: the first is the record at an index, the others follow.
pub record Declared (table : List Record) (at n : ℕ) (r : Record) : Type 0 where
  pub within : at < length table
  pub others : Leaves (n - 1) (pieces table (at + 1) (n - 1))
  pub is : variables_at table at n ≡ declare at r.a r.v ∷ variables_at table (at + 1) (n - 1)

there : (table : List Record) (at n : ℕ) → Leaves (suc n) (pieces table at (suc n)) → at < length table
unfolding forest
there table at n s = go (drop at table) refl
  where
    go : (l : List Record) → drop at table ≡ l → at < length table
    go [] e = absurd (rw e at s)
    go (r ∷ rs) e = omega (arith, length-drop at table, ap length e)

pub declared-first : (table : List Record) (at n : ℕ) (d : Record) → 0 < n → Leaves n (pieces table at n) → Declared table at n (get_or table at d)
declared-first table at zero d k s = absurd (omega arith)
declared-first table at (suc n) d k s =
    let e : suc n - 1 ≡ n = omega arith in
    let h : at < length table = there table at n s in
    let q : (size (tree_at table at) ≡ 1) × Leaves n (pieces table (at + size (tree_at table at)) n) = rw (next table at n h) at s in
    let x : pieces table at (suc n) ≡ more (tree_at table at) (pieces table (at + 1) n) = rw (← q.0) (next table at n h) in
    let y : variable_of (tree_at table at) ≡ declare at (get_or table at d).a (get_or table at d).v = ap variable_of (here table at d h) in
    record {
      within = h;
      others = rw (e, ← q.0) q.1;
      is = rw e (ap variables_in x ∙ ap (λ (a : VariableDeclaration). a ∷ variables_at table (at + 1) n) y);
    }
