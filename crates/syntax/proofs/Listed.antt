-- The prefix listing of a program with every field in its bounds is accepted by the shape check.
use Rattle.std.proofs.Common.{◌≡◌, ℕ, suc, ◌+◌, ◌≤◌, true, false, eqb, ltb, List, [], ◌∷◌, ◌++◌, length, replicate, pos, Ok, sym, refl, ap, ◌∙◌, subst, append_assoc, append-nil, add-zero, arith, length-append}
use Rattle.std.proofs.lemmas.Bool.{le-ltb, ne_eqb}
use Rattle.script.specs.declared.record.Record.{Record}
use Rattle.script.specs.declared.rows.Operator.TheVariants.{Sum, Difference, Greater}
use Rattle.script.specs.declared.rows.Sort.{Sort}
use Rattle.script.specs.declared.rows.Sort.TheVariants as sort
use Rattle.script.specs.Rows.{row_of, suits, wants}
use Rattle.script.specs.Shape.{fields, consume, shape}
use Rattle.syntax.specs.Syntax.{VariableDeclaration, declare, Expression, constant, variable, binary, assign, call, bay_read, bay_write}
use Rattle.syntax.specs.Syntax.{Arguments, no_argument, argument, argument_count, Statement, evaluate, if_else, while, give_back, block}
use Rattle.syntax.specs.Syntax.{Statements, no_statement, then, Declaration, of_a_variable, of_a_function, Program}
use Rattle.syntax.specs.Listing.{rec, list_expression, list_arguments, list_variables, list_statement, list_statements}
use Rattle.syntax.specs.Listing.{statement_count, list_parameters, list_declaration, list_declarations, listing, InBounds, Lists}

bounds-left : (xs ys : List Record) → InBounds (xs ++ ys) → InBounds xs
bounds-left [] ys h = tt
bounds-left (x ∷ xs) ys h = (h.0, bounds-left xs ys h.1)

bounds-right : (xs ys : List Record) → InBounds (xs ++ ys) → InBounds ys
bounds-right [] ys h = h
bounds-right (x ∷ xs) ys h = bounds-right xs ys h.1

-- A record that suits what is wanted, its fields in their bounds, is taken: its parts' wants take its place.
taken : (r : Record) (rs : List Record) (at : ℕ) (w : Sort) (ws : List Sort) → suits w (row_of r.kind).sort ≡ true →
    fields (row_of r.kind) r ≡ true →
    consume (r ∷ rs) at (w ∷ ws) ≡ consume rs (suc at) (wants (row_of r.kind) r ++ ws)
unfolding consume
taken r rs at w ws s f = rw (s, f) refl

-- Records xs that a list of sorts takes whole, whatever follows.
abbrev Meets : List Record → List Sort → Type 0
Meets xs us = (rs : List Record) (at : ℕ) (ws : List Sort) → consume (xs ++ rs) at (us ++ ws) ≡ consume rs (at + length xs) ws

meets-none : Meets [] []
meets-none rs at ws = ap (λ (n : ℕ). consume rs n ws) (sym (add-zero at))

meets-both : (xs ys : List Record) (us vs : List Sort) → Meets xs us → Meets ys vs → Meets (xs ++ ys) (us ++ vs)
meets-both xs ys us vs f g rs at ws =
    let n : at + length xs + length ys ≡ at + length (xs ++ ys) = simp length-append (omega arith) in
    rw (append_assoc xs ys rs, append_assoc us vs ws) (f (ys ++ rs) at (vs ++ ws) ∙ g rs (at + length xs) ws)
    ∙ ap (λ (k : ℕ). consume rs k ws) n

-- A record and the records of its parts.
meets-node : (r : Record) (xs : List Record) (w : Sort) (us : List Sort) → suits w (row_of r.kind).sort ≡ true →
    fields (row_of r.kind) r ≡ true → wants (row_of r.kind) r ≡ us → Meets xs us → Meets (r ∷ xs) (w ∷ [])
meets-node r xs w us s f e g rs at ws =
    let n : suc at + length xs ≡ at + suc (length xs) = omega arith in
    taken r (xs ++ rs) at w ws s f ∙ rw e (g rs (suc at) ws) ∙ ap (λ (k : ℕ). consume rs k ws) n

-- A record of two expressions.
meets-two : (k : ℕ) (e f : Expression) → suits sort.Expression (row_of k).sort ≡ true →
    wants (row_of k) (rec k 0 (pos 0)) ≡ sort.Expression ∷ sort.Expression ∷ [] → fields (row_of k) (rec k 0 (pos 0)) ≡ true →
    Meets (list_expression e) (sort.Expression ∷ []) → Meets (list_expression f) (sort.Expression ∷ []) →
    Meets (rec k 0 (pos 0) ∷ (list_expression e ++ list_expression f)) (sort.Expression ∷ [])
meets-two k e f s w b g h =
    meets-node (rec k 0 (pos 0)) (list_expression e ++ list_expression f) sort.Expression (sort.Expression ∷ sort.Expression ∷ []) s b w
    (meets-both (list_expression e) (list_expression f) (sort.Expression ∷ []) (sort.Expression ∷ []) g h)

mutual
  unfolding row_of

  meets-expression : (e : Expression) → InBounds (list_expression e) → Meets (list_expression e) (sort.Expression ∷ [])
  meets-expression (constant p v) b = meets-node (rec 1 0 v) [] sort.Expression [] refl b.0 refl meets-none
  meets-expression (variable p x) b = meets-node (rec 2 x (pos 0)) [] sort.Expression [] refl b.0 refl meets-none
  meets-expression (binary p Sum e f) b =
      meets-two 3 e f refl refl b.0 (meets-expression e (bounds-left (list_expression e) (list_expression f) b.1))
      (meets-expression f (bounds-right (list_expression e) (list_expression f) b.1))
  meets-expression (binary p Difference e f) b =
      meets-two 4 e f refl refl b.0 (meets-expression e (bounds-left (list_expression e) (list_expression f) b.1))
      (meets-expression f (bounds-right (list_expression e) (list_expression f) b.1))
  meets-expression (binary p Greater e f) b =
      meets-two 5 e f refl refl b.0 (meets-expression e (bounds-left (list_expression e) (list_expression f) b.1))
      (meets-expression f (bounds-right (list_expression e) (list_expression f) b.1))
  meets-expression (assign p x e) b =
      meets-node (rec 6 x (pos 0)) (list_expression e) sort.Expression (sort.Expression ∷ []) refl b.0 refl (meets-expression e b.1)
  meets-expression (call p f es) b =
      meets-node (rec 7 f (pos (argument_count es))) (list_arguments es) sort.Expression (replicate (argument_count es) sort.Expression)
      refl b.0 (append-nil _) (meets-arguments es b.1)
  meets-expression (bay_read p e) b =
      meets-node (rec 8 0 (pos 0)) (list_expression e) sort.Expression (sort.Expression ∷ []) refl b.0 refl (meets-expression e b.1)
  meets-expression (bay_write p e f) b =
      meets-two 9 e f refl refl b.0 (meets-expression e (bounds-left (list_expression e) (list_expression f) b.1))
      (meets-expression f (bounds-right (list_expression e) (list_expression f) b.1))

  meets-arguments : (es : Arguments) → InBounds (list_arguments es) → Meets (list_arguments es) (replicate (argument_count es) sort.Expression)
  meets-arguments no_argument b = meets-none
  meets-arguments (argument e es) b =
      meets-both (list_expression e) (list_arguments es) (sort.Expression ∷ []) (replicate (argument_count es) sort.Expression)
      (meets-expression e (bounds-left (list_expression e) (list_arguments es) b))
      (meets-arguments es (bounds-right (list_expression e) (list_arguments es) b))

meets-variables : (ds : List VariableDeclaration) → InBounds (list_variables ds) → Meets (list_variables ds) (replicate (length ds) sort.Variable)
unfolding row_of
meets-variables [] b = meets-none
meets-variables (declare p x v ∷ ds) b =
    meets-both (rec 24 x v ∷ []) (list_variables ds) (sort.Variable ∷ []) (replicate (length ds) sort.Variable)
    (meets-node (rec 24 x v) [] sort.Variable [] refl b.0 refl meets-none) (meets-variables ds b.1)

mutual
  unfolding row_of

  meets-statement : (s : Statement) → InBounds (list_statement s) → Meets (list_statement s) (sort.Statement ∷ [])
  meets-statement (evaluate p e) b =
      meets-node (rec 16 0 (pos 0)) (list_expression e) sort.Statement (sort.Expression ∷ []) refl b.0 refl (meets-expression e b.1)
  meets-statement (if_else p e s t) b =
      let c = bounds-right (list_expression e) (list_statement s ++ list_statement t) b.1 in
      meets-node (rec 17 0 (pos 0)) (list_expression e ++ (list_statement s ++ list_statement t)) sort.Statement
      (sort.Expression ∷ sort.Statement ∷ sort.Statement ∷ []) refl b.0 refl
      (meets-both (list_expression e) (list_statement s ++ list_statement t) (sort.Expression ∷ []) (sort.Statement ∷ sort.Statement ∷ [])
      (meets-expression e (bounds-left (list_expression e) (list_statement s ++ list_statement t) b.1))
      (meets-both (list_statement s) (list_statement t) (sort.Statement ∷ []) (sort.Statement ∷ [])
      (meets-statement s (bounds-left (list_statement s) (list_statement t) c))
      (meets-statement t (bounds-right (list_statement s) (list_statement t) c))))
  meets-statement (while p e s) b =
      meets-node (rec 18 0 (pos 0)) (list_expression e ++ list_statement s) sort.Statement (sort.Expression ∷ sort.Statement ∷ []) refl b.0 refl
      (meets-both (list_expression e) (list_statement s) (sort.Expression ∷ []) (sort.Statement ∷ [])
      (meets-expression e (bounds-left (list_expression e) (list_statement s) b.1))
      (meets-statement s (bounds-right (list_expression e) (list_statement s) b.1)))
  meets-statement (give_back p e) b =
      meets-node (rec 19 0 (pos 0)) (list_expression e) sort.Statement (sort.Expression ∷ []) refl b.0 refl (meets-expression e b.1)
  meets-statement (block p ds ss) b =
      meets-node (rec 20 (length ds) (pos (statement_count ss))) (list_variables ds ++ list_statements ss) sort.Statement
      (replicate (length ds) sort.Variable ++ replicate (statement_count ss) sort.Statement) refl b.0 refl
      (meets-both (list_variables ds) (list_statements ss) (replicate (length ds) sort.Variable) (replicate (statement_count ss) sort.Statement)
      (meets-variables ds (bounds-left (list_variables ds) (list_statements ss) b.1))
      (meets-statements ss (bounds-right (list_variables ds) (list_statements ss) b.1)))

  meets-statements : (ss : Statements) → InBounds (list_statements ss) → Meets (list_statements ss) (replicate (statement_count ss) sort.Statement)
  meets-statements no_statement b = meets-none
  meets-statements (then s ss) b =
      meets-both (list_statement s) (list_statements ss) (sort.Statement ∷ []) (replicate (statement_count ss) sort.Statement)
      (meets-statement s (bounds-left (list_statement s) (list_statements ss) b))
      (meets-statements ss (bounds-right (list_statement s) (list_statements ss) b))

meets-parameters : (xs : List ℕ) → InBounds (list_parameters xs) → Meets (list_parameters xs) (replicate (length xs) sort.Parameter)
unfolding row_of
meets-parameters [] b = meets-none
meets-parameters (x ∷ xs) b =
    meets-both (rec 26 x (pos 0) ∷ []) (list_parameters xs) (sort.Parameter ∷ []) (replicate (length xs) sort.Parameter)
    (meets-node (rec 26 x (pos 0)) [] sort.Parameter [] refl b.0 refl meets-none) (meets-parameters xs b.1)

meets-declaration : (d : Declaration) → InBounds (list_declaration d) → Meets (list_declaration d) (sort.Declaration ∷ [])
unfolding row_of
meets-declaration (of_a_variable (declare p x v)) b = meets-node (rec 24 x v) [] sort.Declaration [] refl b.0 refl meets-none
meets-declaration (of_a_function f) b =
    let ps = list_parameters f.parameters in
    let ss = list_statement f.body in
    meets-node (rec 25 f.name (pos (length f.parameters))) (ps ++ ss) sort.Declaration
    (replicate (length f.parameters) sort.Parameter ++ sort.Statement ∷ []) refl b.0 refl
    (meets-both ps ss (replicate (length f.parameters) sort.Parameter) (sort.Statement ∷ [])
    (meets-parameters f.parameters (bounds-left ps ss b.1)) (meets-statement f.body (bounds-right ps ss b.1)))

meets-declarations : (ds : List Declaration) → InBounds (list_declarations ds) →
    Meets (list_declarations ds) (replicate (length ds) sort.Declaration)
meets-declarations [] b = meets-none
meets-declarations (d ∷ ds) b =
    meets-both (list_declaration d) (list_declarations ds) (sort.Declaration ∷ []) (replicate (length ds) sort.Declaration)
    (meets-declaration d (bounds-left (list_declaration d) (list_declarations ds) b))
    (meets-declarations ds (bounds-right (list_declaration d) (list_declarations ds) b))

meets-program : (p : Program) → InBounds (listing p) → Meets (listing p) (sort.Program ∷ [])
unfolding row_of
meets-program p b =
    let ds = list_declarations p.declarations in
    let ss = list_statement p.main in
    meets-node (rec 27 (length p.declarations) (pos 0)) (ds ++ ss) sort.Program
    (replicate (length p.declarations) sort.Declaration ++ sort.Statement ∷ []) refl b.0 refl
    (meets-both ds ss (replicate (length p.declarations) sort.Declaration) (sort.Statement ∷ [])
    (meets-declarations p.declarations (bounds-left ds ss b.1)) (meets-statement p.main (bounds-right ds ss b.1)))

whole : (p : Program) → InBounds (listing p) → consume (listing p) 0 (sort.Program ∷ []) ≡ Ok (length (listing p))
unfolding consume
whole p b =
    let e = meets-program p b [] 0 [] in
    let n : 0 + length (listing p) ≡ length (listing p) = omega arith in
    ap (λ (l : List Record). consume l 0 (sort.Program ∷ [])) (sym (append-nil (listing p))) ∙ e ∙ ap Ok n

pub listed_is_accepted : (table : List Record) (p : Program) → Lists table p → shape table ≡ Ok tt
listed_is_accepted table p h =
    let b : InBounds (listing p) = subst InBounds h.is_listing h.in_bounds in
    let small : length (listing p) ≤ 1024 = subst (λ (l : List Record). length l ≤ 1024) h.is_listing h.small in
    let w = whole p b in
    let l₀ : eqb (length (listing p)) 0 ≡ false = ne_eqb (length (listing p)) 0 (λ e. omega arith) in
    let l₁ : ltb 1024 (length (listing p)) ≡ false = le-ltb 1024 (length (listing p)) small in
    let l₂ : ltb (length (listing p)) (length (listing p)) ≡ false = le-ltb (length (listing p)) (length (listing p)) (omega arith) in
    rw (h.is_listing, l₀, l₁, w, l₂) refl
