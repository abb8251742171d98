-- A table whose shape is accepted is the prefix listing of its program.
use Rattle.std.proofs.Common.{◌≡◌, ℕ, zero, suc, ◌+◌, ◌≤◌, Bool, true, false, cond, ◌&&◌, ◌||◌, T, eqb, ltb, ◌⊎◌, List, [], ◌∷◌, ◌++◌, map, length, get_or, take, replicate, ℤ, pos, negsuc, Some, None, Option, Ok, Err, Result, sym, refl, ap, ◌∙◌, subst, inl, inr, append_assoc, append-nil, arith, length-append}
use Rattle.script.specs.declared.record.Record.{Record}
use Rattle.script.specs.declared.refusal.Refusal.{Refusal}
use Rattle.script.specs.declared.refusal.Refusal.TheVariants.{TableSize, LeftOver}
use Rattle.script.specs.declared.rows.Row.{Row}
use Rattle.script.specs.declared.rows.Sort.{Sort}
use Rattle.script.specs.declared.rows.Sort.TheVariants as sort
use Rattle.script.specs.declared.rows.NodeKind.{NodeKind}
use Rattle.script.specs.declared.rows.NodeKind.TheVariants as is
use Rattle.script.specs.Rows.{rows, row_of, node_of, unknown, suits, wants, within, natural, amount}
use Rattle.script.specs.Sequence.{and_then}
use Rattle.script.specs.Shape.{fields, fitting, consume, complete, shape}
use Rattle.syntax.proofs.Accepted.{accepted}
use Rattle.std.proofs.lemmas.Bool.{ltb-false, leb-true, eqb-true, and_parts}
use Rattle.syntax.specs.Syntax.{VariableDeclaration, declare, Expression, constant, variable, binary, assign, call, bay_read, bay_write}
use Rattle.syntax.specs.Syntax.{Arguments, argument_count, Statement, evaluate, if_else, while, give_back, block}
use Rattle.syntax.specs.Syntax.{name_of}
use Rattle.syntax.specs.Trees.{Tree, Forest, node, none, more, taken, left, arity, forest, size, sizes, head, tree_at, Sound, Sounds}
use Rattle.syntax.specs.Typed.{make_expression, expression_of, arguments_of, make_statement, statement_of, statements_of, variables_in, variable_of}
use Rattle.syntax.specs.Typed.{first_statement, drop_statements, make_declaration, node_kind, declarations_of, program_in, program_of}
use Rattle.syntax.specs.Listing.{rec, operator_kind, list_expression, list_arguments, list_variables, list_statement, list_statements}
use Rattle.syntax.specs.Listing.{statement_count, list_parameters, list_declaration, list_declarations, listing, InBounds, Lists}
use Rattle.syntax.proofs.NodeKinds.{row_for, row_is, fits, suited, by-expression, by-statement, by-declaration, only-variable, only-parameter, only-program}
use Rattle.syntax.proofs.Forests.{no-tree}
use Rattle.syntax.proofs.Expressions as expressions
use Rattle.syntax.proofs.Expressions.{parts_of}
use Rattle.syntax.proofs.Statements as statements
use Rattle.syntax.proofs.Statements.{test_of, bodies_of, NoBlock}

-- ---- the records of a tree

abbrev mutual
  pub records : Tree → List Record
  records (node p r ts) = r ∷ records_all ts

  pub records_all : Forest → List Record
  records_all none = []
  records_all (more t ts) = records t ++ records_all ts

-- ---- a record that fits is the one that the listing of its node writes

-- The number of a kind.
abbrev kind_number : NodeKind → ℕ
kind_number is.Unknown = 0
kind_number is.Number = 1
kind_number is.Variable = 2
kind_number (is.TwoPart o) = operator_kind o
kind_number is.Assignment = 6
kind_number is.Call = 7
kind_number is.BayRead = 8
kind_number is.BayWrite = 9
kind_number is.ExpressionStatement = 16
kind_number is.If = 17
kind_number is.While = 18
kind_number is.Return = 19
kind_number is.Block = 20
kind_number is.VariableDeclaration = 24
kind_number is.Function = 25
kind_number is.Parameter = 26
kind_number is.Program = 27

-- Rows from an index on: each is unknown, or says the kind of its own index. One computed test of the whole table.
abbrev told : ℕ → Row → Bool
told i r = suits sort.Unknown r.sort || eqb (kind_number r.node) i

abbrev numbered : ℕ → List Row → Bool
numbered i [] = true
numbered i (r ∷ rs) = told i r && numbered (suc i) rs

told_at : (rs : List Row) (i k : ℕ) → numbered i rs ≡ true → told (i + k) (get_or rs k unknown) ≡ true
told_at [] i k h = refl
told_at (r ∷ rs) i zero h =
    let e : i + 0 ≡ i = omega arith in
    rw e (and_parts (told i r) (numbered (suc i) rs) h).0
told_at (r ∷ rs) i (suc k) h =
    let e : i + suc k ≡ suc i + k = omega arith in
    rw e (told_at rs (suc i) k (and_parts (told i r) (numbered (suc i) rs) h).1)

told-kind : (k : ℕ) → told k (row_of k) ≡ true
unfolding row_of
told-kind k = let e : 0 + k ≡ k = omega arith in rw e at (told_at rows 0 k refl)

-- What a bound leaves of a field.
abbrev clean_name : Option ℕ → ℕ → ℕ
clean_name None n = n
clean_name (Some zero) n = 0
clean_name (Some (suc m)) n = n

abbrev clean_value : Option ℕ → ℤ → ℤ
clean_value None x = x
clean_value (Some zero) x = pos 0
clean_value (Some (suc m)) x = pos (natural x)

clean-name : (b : Option ℕ) (n : ℕ) → within b (pos n) ≡ true → n ≡ clean_name b n
clean-name None n h = refl
clean-name (Some zero) n h = let l : n ≤ 0 = leb-true n 0 h in omega arith
clean-name (Some (suc m)) n h = refl

clean-value : (b : Option ℕ) (x : ℤ) → within b x ≡ true → x ≡ clean_value b x
clean-value None x h = refl
clean-value (Some zero) (pos n) h = let l : n ≤ 0 = leb-true n 0 h in ap pos (omega arith)
clean-value (Some zero) (negsuc n) h = absurd cc
clean-value (Some (suc m)) (pos n) h = refl
clean-value (Some (suc m)) (negsuc n) h = absurd cc

-- The record that the listing of a node writes, given a record of that kind.
abbrev record_for : NodeKind → Record → Record
record_for q r = rec (kind_number q) (clean_name (row_for q).a r.a) (clean_value (row_for q).v r.v)

number_is : (r : Record) → suits sort.Unknown (row_for (node_of r.kind)).sort ≡ false → kind_number (node_of r.kind) ≡ r.kind
number_is r u =
    let h : told r.kind (row_of r.kind) ≡ true = told-kind r.kind in
    let u' : suits sort.Unknown (row_of r.kind).sort ≡ false = ap (λ (z : Row). suits sort.Unknown z.sort) (row_is r.kind) ∙ u in
    eqb-true (kind_number (row_of r.kind).node) r.kind (rw u' at h)

own-record : (w : Sort) (r : Record) (p : ℕ) (q : Row) → fitting w r p ≡ Ok q →
    suits sort.Unknown (row_for (node_of r.kind)).sort ≡ false → r ≡ record_for (node_of r.kind) r
own-record w r p q e u =
    let f : fields (row_for (node_of r.kind)) r ≡ true = ap (λ (z : Row). fields z r) (sym (row_is r.kind)) ∙ (fits w r p q e).bounded in
    let row : Row = row_for (node_of r.kind) in
    let both = and_parts (within row.a (pos r.a)) (within row.v r.v) f in
    let a : r.a ≡ clean_name row.a r.a = clean-name row.a r.a both.0 in
    let v : r.v ≡ clean_value row.v r.v = clean-value row.v r.v both.1 in
    let k : r.kind ≡ kind_number (node_of r.kind) = sym (number_is r u) in
    λ t. record { kind = k t; a = a t; v = v t }

-- ---- expressions

-- The record of an expression itself.
abbrev own_expression : Expression → Record
own_expression (constant p v) = rec 1 0 v
own_expression (variable p x) = rec 2 x (pos 0)
own_expression (binary p o e f) = rec (operator_kind o) 0 (pos 0)
own_expression (assign p x e) = rec 6 x (pos 0)
own_expression (call p f es) = rec 7 f (pos (argument_count es))
own_expression (bay_read p e) = rec 8 0 (pos 0)
own_expression (bay_write p e f) = rec 9 0 (pos 0)

-- An expression's listing is its own record and then its parts'.
expression-lists : (e : Expression) → list_expression e ≡ own_expression e ∷ list_arguments (parts_of e)
expression-lists (constant p v) = refl
expression-lists (variable p x) = refl
expression-lists (binary p o e f) = ap (λ (l : List Record). rec (operator_kind o) 0 (pos 0) ∷ (list_expression e ++ l)) (sym (append-nil (list_expression f)))
expression-lists (assign p x e) = ap (λ (l : List Record). rec 6 x (pos 0) ∷ l) (sym (append-nil (list_expression e)))
expression-lists (call p f es) = refl
expression-lists (bay_read p e) = ap (λ (l : List Record). rec 8 0 (pos 0) ∷ l) (sym (append-nil (list_expression e)))
expression-lists (bay_write p e f) = ap (λ (l : List Record). rec 9 0 (pos 0) ∷ (list_expression e ++ l)) (sym (append-nil (list_expression f)))

own_is : (p : ℕ) (r : Record) (es : Arguments) (q : NodeKind) → T (suits sort.Expression (row_for q).sort) →
    argument_count es ≡ amount (row_for q).first.count r → own_expression (make_expression q p r es) ≡ record_for q r
own_is p r es =
    by-expression (λ q. argument_count es ≡ amount (row_for q).first.count r → own_expression (make_expression q p r es) ≡ record_for q r)
    (λ c. refl) (λ c. refl) (λ o c. refl) (λ c. refl) (λ c. ap (λ (n : ℕ). rec 7 r.a (pos n)) c) (λ c. refl) (λ c. refl)

known-expression : (q : NodeKind) → T (suits sort.Expression (row_for q).sort) → suits sort.Unknown (row_for q).sort ≡ false
known-expression = by-expression (λ q. suits sort.Unknown (row_for q).sort ≡ false) refl refl (λ o. refl) refl refl refl refl

mutual
  lists-expression : (t : Tree) → Sound t sort.Expression → list_expression (expression_of t) ≡ records t
  lists-expression (node p r ts) s =
      let q : NodeKind = node_of r.kind in
      let n : ℕ = amount (row_for q).first.count r in
      let i : T (suits sort.Expression (row_for q).sort) = suited sort.Expression r p _ s.0 in
      let sq : Sounds ts (wants (row_for q) r) = subst (λ (z : Row). Sounds ts (wants z r)) (row_is r.kind) s.1 in
      let sn : Sounds ts (replicate n sort.Expression) = subst (Sounds ts) (expressions.wants-are r q i) sq in
      let own : own_expression (make_expression q p r (arguments_of ts)) ≡ r =
      own_is p r (arguments_of ts) q i (expressions.many ts n sn) ∙ sym (own-record sort.Expression r p _ s.0 (known-expression q i)) in
      let parts : list_arguments (parts_of (make_expression q p r (arguments_of ts))) ≡ records_all ts =
      ap list_arguments (expressions.parts_are p r ts q i sq) ∙ lists-arguments ts n sn in
      expression-lists (make_expression q p r (arguments_of ts))
      ∙ (λ t. own t ∷ parts t)

  lists-arguments : (ts : Forest) (n : ℕ) → Sounds ts (replicate n sort.Expression) → list_arguments (arguments_of ts) ≡ records_all ts
  lists-arguments none n s = refl
  lists-arguments (more t ts) zero s = absurd s
  lists-arguments (more t ts) (suc n) s =
      let a = lists-expression t s.0 in
      let b = lists-arguments ts n s.1 in
      λ i. a i ++ b i

-- ---- declarations of one record

-- A tree of one record of a kind.
record Leaf (t : Tree) (k : NodeKind) : Type 0 where
  own : Record
  lists : records t ≡ own ∷ []
  names : (p : ℕ) × (variable_of t ≡ declare p own.a own.v)
  is : own ≡ record_for k own

lists-leaf : (w : Sort) (k : NodeKind) → ((q : NodeKind) → T (suits w (row_for q).sort) → q ≡ k) →
    suits sort.Unknown (row_for k).sort ≡ false → ((r : Record) → wants (row_for k) r ≡ []) → (t : Tree) → Sound t w → Leaf t k
lists-leaf w k only u f (node p r ts) s =
    let q : node_of r.kind ≡ k = only (node_of r.kind) (suited w r p _ s.0) in
    let u' : suits sort.Unknown (row_for (node_of r.kind)).sort ≡ false = ap (λ (z : NodeKind). suits sort.Unknown (row_for z).sort) q ∙ u in
    let e : wants (row_of r.kind) r ≡ [] = ap (λ (z : Row). wants z r) (row_is r.kind) ∙ (ap (λ (z : NodeKind). wants (row_for z) r) q ∙ f r) in
    record {
      own = r;
      lists = ap (λ (l : List Record). r ∷ l) (ap records_all (no-tree ts (rw e at s.1)));
      names = (p, refl);
      is = own-record w r p _ s.0 u' ∙ ap (λ (z : NodeKind). record_for z r) q;
    }

leaf-variable : (t : Tree) → Sound t sort.Variable → Leaf t is.VariableDeclaration
leaf-variable = lists-leaf sort.Variable is.VariableDeclaration only-variable refl (λ r. refl)

leaf-parameter : (t : Tree) → Sound t sort.Parameter → Leaf t is.Parameter
leaf-parameter = lists-leaf sort.Parameter is.Parameter only-parameter refl (λ r. refl)

-- One declaration more in front.
variable-lists : (t : Tree) (ds : List VariableDeclaration) → Leaf t is.VariableDeclaration →
    list_variables (variable_of t ∷ ds) ≡ records t ++ list_variables ds
variable-lists t ds l =
    ap (λ (d : VariableDeclaration). list_variables (d ∷ ds)) l.names.1
    ∙ (ap (λ (r : Record). r ∷ list_variables ds) (sym l.is) ∙ ap (λ (z : List Record). z ++ list_variables ds) (sym l.lists))

parameter-lists : (t : Tree) (xs : List ℕ) → Leaf t is.Parameter →
    list_parameters (name_of (variable_of t) ∷ xs) ≡ records t ++ list_parameters xs
parameter-lists t xs l =
    ap (λ (d : VariableDeclaration). list_parameters (name_of d ∷ xs)) l.names.1
    ∙ (ap (λ (r : Record). r ∷ list_parameters xs) (sym l.is) ∙ ap (λ (z : List Record). z ++ list_parameters xs) (sym l.lists))

-- ---- statements

-- The record of a statement itself.
abbrev own_statement : Statement → Record
own_statement (evaluate p e) = rec 16 0 (pos 0)
own_statement (if_else p e s t) = rec 17 0 (pos 0)
own_statement (while p e s) = rec 18 0 (pos 0)
own_statement (give_back p e) = rec 19 0 (pos 0)
own_statement (block p ds ss) = rec 20 (length ds) (pos (statement_count ss))

-- The listing of a statement that is no block: its record, its expression's and its statements'.
statement-lists : (s : Statement) → NoBlock s → list_statement s ≡ own_statement s ∷ (list_expression (test_of s) ++ list_statements (bodies_of s))
statement-lists (evaluate p e) n = ap (λ (l : List Record). rec 16 0 (pos 0) ∷ l) (sym (append-nil (list_expression e)))
statement-lists (if_else p e s t) n =
    ap (λ (l : List Record). rec 17 0 (pos 0) ∷ (list_expression e ++ (list_statement s ++ l))) (sym (append-nil (list_statement t)))
statement-lists (while p e s) n =
    ap (λ (l : List Record). rec 18 0 (pos 0) ∷ (list_expression e ++ l)) (sym (append-nil (list_statement s)))
statement-lists (give_back p e) n = ap (λ (l : List Record). rec 19 0 (pos 0) ∷ l) (sym (append-nil (list_expression e)))
statement-lists (block p ds ss) n = absurd n

own-statement : (p : ℕ) (r : Record) (t : Tree) (us : Forest) (q : NodeKind) → T (suits sort.Statement (row_for q).sort) → (q ≡ is.Block → ⊥) →
    own_statement (statements.made q p r t us) ≡ record_for q r
own-statement p r t us =
    by-statement (λ q. (q ≡ is.Block → ⊥) → own_statement (statements.made q p r t us) ≡ record_for q r)
    (λ b. refl) (λ b. refl) (λ b. refl) (λ b. refl) (λ b. absurd (b refl))

known-statement : (q : NodeKind) → T (suits sort.Statement (row_for q).sort) → suits sort.Unknown (row_for q).sort ≡ false
known-statement = by-statement (λ q. suits sort.Unknown (row_for q).sort ≡ false) refl refl refl refl refl

-- Is a kind of statement a block.
block-or-not : (q : NodeKind) → T (suits sort.Statement (row_for q).sort) → (q ≡ is.Block) ⊎ (q ≡ is.Block → ⊥)
block-or-not =
    by-statement (λ q. (q ≡ is.Block) ⊎ (q ≡ is.Block → ⊥))
    (inr (λ e. absurd cc)) (inr (λ e. absurd cc))
    (inr (λ e. absurd cc)) (inr (λ e. absurd cc))
    (inl refl)

-- What the trees of a block's parts list: k declarations, then n statements.
record Inside (ts : Forest) (k n : ℕ) : Type 0 where
  lists : list_variables (take k (variables_in ts)) ++ list_statements (drop_statements k (statements_of ts)) ≡ records_all ts
  locals : length (take k (variables_in ts)) ≡ k
  count : statement_count (drop_statements k (statements_of ts)) ≡ n

block-own : (p : ℕ) (r : Record) (ts : Forest) → Inside ts r.a (natural r.v) →
    own_statement (make_statement is.Block p r (arguments_of ts) (variables_in ts) (statements_of ts)) ≡ record_for is.Block r
block-own p r ts h = λ i. rec 20 (h.locals i) (pos (h.count i))

counted : (us : Forest) (m : ℕ) → Sounds us (replicate m sort.Statement) → statement_count (statements_of us) ≡ m
counted none zero h = refl
counted none (suc m) h = absurd h
counted (more x xs) zero h = absurd h
counted (more x xs) (suc m) h = ap suc (counted xs m h.1)

mutual
  lists-statement : (t : Tree) → Sound t sort.Statement → list_statement (statement_of t) ≡ records t
  lists-statement (node p r ts) s =
      let q : NodeKind = node_of r.kind in
      let i : T (suits sort.Statement (row_for q).sort) = suited sort.Statement r p _ s.0 in
      let own : r ≡ record_for q r = own-record sort.Statement r p _ s.0 (known-statement q i) in
      let sq : Sounds ts (wants (row_for q) r) = subst (λ (z : Row). Sounds ts (wants z r)) (row_is r.kind) s.1 in
      elim (block-or-not q i) [
        | inl b ↦
            let h = lists-inside ts r.a (natural r.v) (subst (λ (z : NodeKind). Sounds ts (wants (row_for z) r)) b sq) in
            ap (λ (z : NodeKind). list_statement (make_statement z p r (arguments_of ts) (variables_in ts) (statements_of ts))) b
            ∙ ((λ j. block-own p r ts h j ∷ h.lists j)
            ∙ ap (λ (z : Record). z ∷ records_all ts) (sym (own ∙ ap (λ (z : NodeKind). record_for z r) b)))
        | inr b ↦ lists-plain ts p r q i b own (subst (Sounds ts) (statements.wants-are r q i b) sq)
      ]

  -- A statement that is no block, from its parts.
  lists-plain : (ts : Forest) (p : ℕ) (r : Record) (q : NodeKind) → T (suits sort.Statement (row_for q).sort) → (q ≡ is.Block → ⊥) →
      r ≡ record_for q r → Sounds ts (sort.Expression ∷ replicate (amount (row_for q).second.count r) sort.Statement) →
      list_statement (make_statement q p r (arguments_of ts) (variables_in ts) (statements_of ts)) ≡ r ∷ records_all ts
  lists-plain none p r q i b own s = absurd s
  lists-plain (more t us) p r q i b own s =
      let u = statements.parts_are p r t us q i b s.1 in
      let e : list_expression (test_of (statements.made q p r t us)) ≡ records t = ap list_expression u.test ∙ lists-expression t s.0 in
      let f : list_statements (bodies_of (statements.made q p r t us)) ≡ records_all us =
      ap list_statements u.bodies ∙ lists-statements us (amount (row_for q).second.count r) s.1 in
      let o : own_statement (statements.made q p r t us) ≡ r = own-statement p r t us q i b ∙ sym own in
      statement-lists (statements.made q p r t us) u.plain ∙ (λ j. o j ∷ (e j ++ f j))

  lists-statements : (ts : Forest) (n : ℕ) → Sounds ts (replicate n sort.Statement) → list_statements (statements_of ts) ≡ records_all ts
  lists-statements none n s = refl
  lists-statements (more t ts) zero s = absurd s
  lists-statements (more t ts) (suc n) s =
      let a = lists-statement t s.0 in
      let b = lists-statements ts n s.1 in
      λ i. a i ++ b i

  lists-inside : (ts : Forest) (k n : ℕ) → Sounds ts (replicate k sort.Variable ++ replicate n sort.Statement) → Inside ts k n
  lists-inside none zero zero s = record { lists = refl; locals = refl; count = refl }
  lists-inside none zero (suc n) s = absurd s
  lists-inside none (suc k) n s = absurd s
  lists-inside (more t ts) zero zero s = absurd s
  lists-inside (more t ts) zero (suc n) s =
      let a = lists-statement t s.0 in
      let b = lists-statements ts n s.1 in
      record { lists = λ i. a i ++ b i; locals = refl; count = ap suc (counted ts n s.1) }
  lists-inside (more t ts) (suc k) n s =
      let h = lists-inside ts k n s.1 in
      let rest = list_statements (drop_statements k (statements_of ts)) in
      record {
        lists = ap (λ (l : List Record). l ++ rest) (variable-lists t (take k (variables_in ts)) (leaf-variable t s.0))
            ∙ (append_assoc (records t) (list_variables (take k (variables_in ts))) rest ∙ ap (λ (l : List Record). records t ++ l) h.lists);
        locals = ap suc h.locals;
        count = h.count;
      }

-- ---- functions, declarations and the program

-- What the trees of a function's parts list: k parameters, then its body.
record Headed (ts : Forest) (k : ℕ) : Type 0 where
  lists : list_parameters (map name_of (take k (variables_in ts))) ++ list_statement (first_statement (drop_statements k (statements_of ts))) ≡ records_all ts
  parameters : length (map name_of (take k (variables_in ts))) ≡ k

lists-headed : (ts : Forest) (k : ℕ) → Sounds ts (replicate k sort.Parameter ++ sort.Statement ∷ []) → Headed ts k
lists-headed none zero s = absurd s
lists-headed none (suc k) s = absurd s
lists-headed (more t none) zero s =
    record { lists = lists-statement t s.0 ∙ sym (append-nil (records t)); parameters = refl }
lists-headed (more t (more u us)) zero s = absurd s.1
lists-headed (more t ts) (suc k) s =
    let h = lists-headed ts k s.1 in
    let rest = list_statement (first_statement (drop_statements k (statements_of ts))) in
    let xs = map name_of (take k (variables_in ts)) in
    record {
      lists = ap (λ (l : List Record). l ++ rest) (parameter-lists t xs (leaf-parameter t s.0))
          ∙ (append_assoc (records t) (list_parameters xs) rest ∙ ap (λ (l : List Record). records t ++ l) h.lists);
      parameters = ap suc h.parameters;
    }

lists-declaration : (t : Tree) → Sound t sort.Declaration → list_declaration (make_declaration (node_kind t) t) ≡ records t
lists-declaration (node p r ts) s =
    let q : NodeKind = node_of r.kind in
    let i : T (suits sort.Declaration (row_for q).sort) = suited sort.Declaration r p _ s.0 in
    let sq : Sounds ts (wants (row_for q) r) = subst (λ (z : Row). Sounds ts (wants z r)) (row_is r.kind) s.1 in
    by-declaration (λ z. (suits sort.Unknown (row_for z).sort ≡ false → r ≡ record_for z r) → Sounds ts (wants (row_for z) r) →
    list_declaration (make_declaration z (node p r ts)) ≡ r ∷ records_all ts)
    (λ own h. ap (λ (z : Record). z ∷ []) (sym (own refl)) ∙ ap (λ (l : List Record). r ∷ l) (sym (ap records_all (no-tree ts h))))
    (λ own h.
    let g = lists-headed ts (natural r.v) h in
    (λ j. rec 25 r.a (pos (g.parameters j)) ∷ g.lists j) ∙ ap (λ (z : Record). z ∷ records_all ts) (sym (own refl)))
    q i (own-record sort.Declaration r p _ s.0) sq

-- What the trees of a program's parts list: k declarations, then its statement.
record Whole (ts : Forest) (k : ℕ) : Type 0 where
  lists : list_declarations (take k (declarations_of ts)) ++ list_statement (first_statement (drop_statements k (statements_of ts))) ≡ records_all ts
  declarations : length (take k (declarations_of ts)) ≡ k

lists-whole : (ts : Forest) (k : ℕ) → Sounds ts (replicate k sort.Declaration ++ sort.Statement ∷ []) → Whole ts k
lists-whole none zero s = absurd s
lists-whole none (suc k) s = absurd s
lists-whole (more t none) zero s =
    record { lists = lists-statement t s.0 ∙ sym (append-nil (records t)); declarations = refl }
lists-whole (more t (more u us)) zero s = absurd s.1
lists-whole (more t ts) (suc k) s =
    let h = lists-whole ts k s.1 in
    let rest = list_statement (first_statement (drop_statements k (statements_of ts))) in
    let ds = list_declarations (take k (declarations_of ts)) in
    record {
      lists = ap (λ (l : List Record). (l ++ ds) ++ rest) (lists-declaration t s.0)
          ∙ (append_assoc (records t) ds rest ∙ ap (λ (l : List Record). records t ++ l) h.lists);
      declarations = ap suc h.declarations;
    }

lists-program : (t : Tree) → Sound t sort.Program → listing (program_in t) ≡ records t
lists-program (node p r ts) s =
    let q : node_of r.kind ≡ is.Program = only-program (node_of r.kind) (suited sort.Program r p _ s.0) in
    let sq : Sounds ts (wants (row_for is.Program) r) =
    subst (λ (z : Row). Sounds ts (wants z r)) (row_is r.kind ∙ ap row_for q) s.1 in
    let own : r ≡ record_for is.Program r =
    own-record sort.Program r p _ s.0 (ap (λ (z : NodeKind). suits sort.Unknown (row_for z).sort) q)
    ∙ ap (λ (z : NodeKind). record_for z r) q in
    let h = lists-whole ts r.a sq in
    (λ j. rec 27 (h.declarations j) (pos 0) ∷ h.lists j) ∙ ap (λ (z : Record). z ∷ records_all ts) (sym own)

-- ---- the trees of a table have its records

abbrev bounds-both : (xs ys : List Record) → InBounds xs → InBounds ys → InBounds (xs ++ ys)
bounds-both [] ys a b = b
bounds-both (x ∷ xs) ys a b = (a.0, bounds-both xs ys a.1 b)

mutual
  bounded : (t : Tree) (w : Sort) → Sound t w → InBounds (records t)
  bounded (node p r ts) w s = ((fits w r p _ s.0).bounded, bounded-all ts (wants (row_of r.kind) r) s.1)

  bounded-all : (ts : Forest) (ws : List Sort) → Sounds ts ws → InBounds (records_all ts)
  bounded-all none ws s = tt
  bounded-all (more t ts) [] s = absurd s
  bounded-all (more t ts) (w ∷ ws) s = bounds-both (records t) (records_all ts) (bounded t w s.0) (bounded-all ts ws s.1)

taken-left : (n : ℕ) (ts : Forest) → records_all (taken n ts) ++ records_all (left n ts) ≡ records_all ts
taken-left zero ts = refl
taken-left (suc n) none = refl
taken-left (suc n) (more t ts) =
    append_assoc (records t) (records_all (taken n ts)) (records_all (left n ts)) ∙ ap (λ (l : List Record). records t ++ l) (taken-left n ts)

all-records : (rs : List Record) (at : ℕ) → records_all (forest at rs) ≡ rs
unfolding forest
all-records [] at = refl
all-records (r ∷ rs) at = ap (λ (l : List Record). r ∷ l) (taken-left (arity r) (forest (suc at) rs) ∙ all-records rs (suc at))

mutual
  size-records : (t : Tree) → length (records t) ≡ size t
  size-records (node p r ts) = ap suc (sizes-records ts)

  sizes-records : (ts : Forest) → length (records_all ts) ≡ sizes ts
  sizes-records none = refl
  sizes-records (more t ts) =
      length-append (records t) (records_all ts) ∙ (λ i. size-records t i + sizes-records ts i)

empty-list : (xs : List Record) → length xs ≡ 0 → xs ≡ []
empty-list [] e = refl
empty-list (x ∷ xs) e = absurd (omega arith)

-- One tree that has as many records as the table has all of them.
alone : (rs : List Record) (at : ℕ) → sizes (taken 1 (forest at rs)) ≡ length rs → records_all (taken 1 (forest at rs)) ≡ rs
alone rs at e =
    let f : Forest = forest at rs in
    let j : records_all (taken 1 f) ++ records_all (left 1 f) ≡ rs = taken-left 1 f ∙ all-records rs at in
    let l : length (records_all (taken 1 f)) + length (records_all (left 1 f)) ≡ length rs =
    sym (length-append (records_all (taken 1 f)) (records_all (left 1 f))) ∙ ap length j in
    let z : records_all (left 1 f) ≡ [] = empty-list (records_all (left 1 f)) (omega (arith, sizes-records (taken 1 f))) in
    sym (append-nil (records_all (taken 1 f))) ∙ (ap (λ (l : List Record). records_all (taken 1 f) ++ l) (sym z) ∙ j)

head-records : (f : Forest) (w : Sort) → Sounds (taken 1 f) (w ∷ []) → records_all (taken 1 f) ≡ records (head f)
head-records none w s = absurd s
head-records (more t ts) w s = append-nil (records t)

head-sound : (f : Forest) (w : Sort) → Sounds (taken 1 f) (w ∷ []) → Sound (head f) w
head-sound none w s = absurd s
head-sound (more t ts) w s = s.0

-- What an accepted shape says: the table's records are met by a program, all of them, and they are not too many.
record Consumed (table : List Record) : Type 0 where
  met : consume table 0 (sort.Program ∷ []) ≡ Ok (length table)
  small : length table ≤ 1024

consumed : (table : List Record) → shape table ≡ Ok tt → Consumed table
consumed table e = go (eqb (length table) 0) (ltb 1024 (length table)) (le_from table) (consume table 0 (sort.Program ∷ [])) refl e
  where
    le_from : (t : List Record) → ltb 1024 (length t) ≡ false → length t ≤ 1024
    le_from t h = ltb-false 1024 (length t) h

    ends : (n : ℕ) (b : Bool) → ltb n (length table) ≡ b → ◌≡◌ {A = Result (Unit {0}) Refusal} (cond b (Err (LeftOver n)) (Ok tt)) (Ok tt) → length table ≤ n
    ends n true h z = absurd cc
    ends n false h z = ltb-false n (length table) h

    go : (a b : Bool) → (b ≡ false → length table ≤ 1024) → (q : Result ℕ Refusal) → consume table 0 (sort.Program ∷ []) ≡ q →
        ◌≡◌ {A = Result (Unit {0}) Refusal} (cond (a || b) (Err TableSize) (and_then q (complete table))) (Ok tt) → Consumed table
    go true b l q h z = absurd cc
    go false true l q h z = absurd cc
    go false false l (Err x) h z = absurd cc
    go false false l (Ok n) h z =
        let a = accepted table 0 (sort.Program ∷ []) n h in
        let f : Forest = forest 0 table in
        let m : length table ≤ n = ends n (ltb n (length table)) refl z in
        let k : length (records_all (taken 1 f)) + length (records_all (left 1 f)) ≡ length table =
        sym (length-append (records_all (taken 1 f)) (records_all (left 1 f))) ∙ ap length (taken-left 1 f ∙ all-records table 0) in
        let n≡ : n ≡ length table = omega (arith, a.1, sizes-records (taken 1 f)) in
        record { met = h ∙ ap Ok n≡; small = l refl }

pub accepted-sound : (table : List Record) → shape table ≡ Ok tt → Sound (tree_at table 0) sort.Program
accepted-sound table e =
    head-sound (forest 0 table) sort.Program (accepted table 0 (sort.Program ∷ []) (length table) (consumed table e).met).0

pub accepted_lists : (table : List Record) → shape table ≡ Ok tt → Lists table (program_of table)
accepted_lists table e =
    let c = consumed table e in
    let a = accepted table 0 (sort.Program ∷ []) (length table) c.met in
    let f : Forest = forest 0 table in
    let z : sizes (taken 1 f) ≡ length table = omega (arith, a.1) in
    let all : records (tree_at table 0) ≡ table = sym (head-records f sort.Program a.0) ∙ alone table 0 z in
    let s : Sound (tree_at table 0) sort.Program = head-sound f sort.Program a.0 in
    record {
      is_listing = sym all ∙ sym (lists-program (tree_at table 0) s);
      in_bounds = subst InBounds all (bounded (tree_at table 0) sort.Program s);
      small = c.small;
    }
