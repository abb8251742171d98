-- The rules for names pass exactly the programs that are well named: rule by rule, both ways.
use Rattle.std.proofs.Common.{◌≡◌, ℕ, suc, Bool, true, false, cond, not, ◌||◌, eqb, leb, ◌⊎◌, List, [], ◌∷◌, ◌++◌, map, reverse, length, is_some, Some, Ok, Err, sym, refl, inl, inr}
use Rattle.std.proofs.lemmas.List.{map-append}
use Rattle.std.proofs.lemmas.Bool.{false≢true, eqb-true, eq-eqb, eqb-false, leb-true, le-leb}
use Rattle.script.specs.declared.refusal.Refusal.{Refusal}
use Rattle.script.specs.declared.refusal.Refusal.TheVariants.{DeclaredTwice, Undeclared, ArgumentCount, FrameNeed}
use Rattle.script.specs.Refusals.{unless}
use Rattle.syntax.specs.Syntax.{VariableDeclaration, declare, Expression, constant, variable, binary, assign, call}
use Rattle.syntax.specs.Syntax.{bay_read, bay_write, Arguments, no_argument, argument, Statement, evaluate, if_else}
use Rattle.syntax.specs.Syntax.{while, give_back, block, Statements, no_statement, then, Function, Declaration}
use Rattle.syntax.specs.Syntax.{of_a_variable, of_a_function, name_of, bind_names, argument_count, locate}
use Rattle.syntax.specs.Syntax.{function_named, functions_of, variables_of, global_names}
use Rattle.names.specs.declared.signature.Signature.{Signature}
use Rattle.names.specs.Need.{largest_need}
use Rattle.names.specs.Names.{Answer, ◌⨟◌, signature, is_function, call_rule, declared, global_rules, local_rules}
use Rattle.names.specs.Names.{parameter_rules, expression_rules, argument_rules, statement_rules, block_rules}
use Rattle.names.specs.Names.{function_rules}
use Rattle.names.specs.Scoped.{Member, Distinct, Takes, Known, Fresh, AllFresh, ScopedExpression, ScopedArguments}
use Rattle.names.specs.Scoped.{ScopedStatement, ScopedStatements, ScopedFunctions, function_name}
use Rattle.names.specs.Laws.{PassesWhereWellNamed}
use Rattle.names.proofs.Outcomes.{never}

infixr 30 ◌⇔◌
abbrev ◌⇔◌ : Type 0 → Type 0 → Type 0
A ⇔ B = (A → B) × (B → A)

-- An answer that is fine.
abbrev Fine : Answer → Type 0
Fine a = a ≡ Ok tt

-- ---- rules and tests

both : (a b : Answer) {A B : Type 0} → Fine a ⇔ A → Fine b ⇔ B → Fine (a ⨟ b) ⇔ (A × B)
both (Ok tt) b f g = (λ p. (f.0 refl, g.0 p), λ q. g.1 q.1)
both (Err e) b f g = (λ p. absurd (never e p), λ q. absurd (never e (f.1 q.0)))

test : (b : Bool) (e : Refusal) {B : Type 0} → (b ≡ true) ⇔ B → Fine (unless b e) ⇔ B
test true e f = (λ p. f.0 refl, λ q. refl)
test false e f = (λ p. absurd (never e p), λ q. absurd (false≢true (f.1 q)))

either : (a b : Bool) {A B : Type 0} → (a ≡ true) ⇔ A → (b ≡ true) ⇔ B → ((a || b) ≡ true) ⇔ (A ⊎ B)
either true b f g = (λ p. inl (f.0 refl), λ q. refl)
either false b f g = (λ p. inr (g.0 p), λ q. elim q [ inl x ↦ absurd (false≢true (f.1 x)) | inr y ↦ g.1 y ])

opposite : (b : Bool) {B : Type 0} → (b ≡ true) ⇔ B → (not b ≡ true) ⇔ (B → ⊥)
opposite true f = (λ p x. false≢true p, λ q. absurd (q (f.0 refl)))
opposite false f = (λ p x. false≢true (f.1 x), λ q. refl)

-- ---- names

located : (x : ℕ) (names : List ℕ) → (is_some (locate x names) ≡ true) ⇔ Member x names
located x [] = (λ p. absurd (false≢true p), λ q. absurd q)
located x (n ∷ names) = go (eqb x n) refl (located x names)
  where
    go : (b : Bool) → eqb x n ≡ b → (is_some (locate x names) ≡ true) ⇔ Member x names →
        (is_some (cond b (Some (length names)) (locate x names)) ≡ true) ⇔ ((x ≡ n) ⊎ Member x names)
    go true e f = (λ p. inl (eqb-true x n e), λ q. refl)
    go false e f = (λ p. inr (f.0 p), λ q. elim q [ inl s ↦ absurd (eqb-false x n e s) | inr m ↦ f.1 m ])

listed : (x : ℕ) (functions : List Signature) → (is_function x functions ≡ true)
    ⇔ Member x (map (λ (f : Signature). f.name) functions)
listed x [] = (λ p. absurd (false≢true p), λ q. absurd q)
listed x (f ∷ fs) = go (eqb x f.name) refl (listed x fs)
  where
    go : (b : Bool) → eqb x f.name ≡ b → (is_function x fs ≡ true)
        ⇔ Member x (map (λ (g : Signature). g.name) fs) →
        (cond b true (is_function x fs) ≡ true) ⇔ ((x ≡ f.name) ⊎ Member x (map (λ (g : Signature). g.name) fs))
    go true e h = (λ p. inl (eqb-true x f.name e), λ q. refl)
    go false e h = (λ p. inr (h.0 p), λ q. elim q [ inl s ↦ absurd (eqb-false x f.name e s) | inr m ↦ h.1 m ])

equal : (m n : ℕ) → (eqb m n ≡ true) ⇔ (n ≡ m)
equal m n = (λ p. sym (eqb-true m n p), λ q. eq-eqb m n (sym q))

called : (x : ℕ) (functions : List Function) (count place : ℕ) →
    Fine (call_rule x (map signature functions) count place) ⇔ Takes (function_named x functions) count
called x [] count place = (λ p. absurd (never (Undeclared place) p), λ q. absurd q)
called x (f ∷ fs) count place = go (eqb x f.name) (called x fs count place)
  where
    go : (b : Bool) → Fine (call_rule x (map signature fs) count place) ⇔ Takes (function_named x fs) count →
        Fine (cond b (unless (eqb count (length f.parameters)) (ArgumentCount place))
        (call_rule x (map signature fs) count place))
        ⇔ Takes (cond b (Some f) (function_named x fs)) count
    go true h = test (eqb count (length f.parameters)) (ArgumentCount place) (equal count (length f.parameters))
    go false h = h

-- ---- expressions and statements

module _ (globals : List ℕ) where
  known : (x : ℕ) (own : List ℕ) → (declared globals x own ≡ true) ⇔ Known globals x own
  known x own = either (is_some (locate x own)) (is_some (locate x globals)) (located x own) (located x globals)

  use-fine : (x : ℕ) (own : List ℕ) (e : Refusal) → Fine (unless (declared globals x own) e) ⇔ Known globals x own
  use-fine x own e = test (declared globals x own) e (known x own)

  fresh : (x : ℕ) (own : List ℕ) (e : Refusal) → Fine (unless (not (declared globals x own)) e) ⇔ Fresh globals x own
  fresh x own e = test (not (declared globals x own)) e (opposite (declared globals x own) (known x own))

  locals : (ds : List VariableDeclaration) (own : List ℕ) → Fine (local_rules globals ds own)
      ⇔ AllFresh globals (map name_of ds) own
  locals [] own = (λ p. tt, λ q. refl)
  locals (declare a x v ∷ ds) own = both _ _ (fresh x own (DeclaredTwice a)) (locals ds (x ∷ own))

  parameters : (xs : List ℕ) (place : ℕ) (own : List ℕ) → Fine (parameter_rules globals xs place own)
      ⇔ AllFresh globals xs own
  parameters [] place own = (λ p. tt, λ q. refl)
  parameters (x ∷ xs) place own = both _ _ (fresh x own (DeclaredTwice place)) (parameters xs (suc place) (x ∷ own))

  module _ (functions : List Function) where
    mutual
      expressions : (e : Expression) (own : List ℕ) →
          Fine (expression_rules globals (map signature functions) e own) ⇔ ScopedExpression globals functions e own
      expressions (constant a v) own = (λ p. tt, λ q. refl)
      expressions (variable a x) own = use-fine x own (Undeclared a)
      expressions (binary a o e f) own = both _ _ (expressions e own) (expressions f own)
      expressions (assign a x e) own = both _ _ (use-fine x own (Undeclared a)) (expressions e own)
      expressions (call a f es) own = both _ _ (called f functions (argument_count es) a) (arguments es own)
      expressions (bay_read a e) own = expressions e own
      expressions (bay_write a e f) own = both _ _ (expressions e own) (expressions f own)

      arguments : (es : Arguments) (own : List ℕ) →
          Fine (argument_rules globals (map signature functions) es own) ⇔ ScopedArguments globals functions es own
      arguments no_argument own = (λ p. tt, λ q. refl)
      arguments (argument e es) own = both _ _ (expressions e own) (arguments es own)

    mutual
      statement : (s : Statement) (own : List ℕ) →
          Fine (statement_rules globals (map signature functions) s own) ⇔ ScopedStatement globals functions s own
      statement (evaluate a e) own = expressions e own
      statement (if_else a e s t) own = both _ _ (expressions e own) (both _ _ (statement s own) (statement t own))
      statement (while a e s) own = both _ _ (expressions e own) (statement s own)
      statement (give_back a e) own = expressions e own
      statement (block a ds ss) own = both _ _ (locals ds own) (statements ss (bind_names ds own))

      statements : (ss : Statements) (own : List ℕ) →
          Fine (block_rules globals (map signature functions) ss own) ⇔ ScopedStatements globals functions ss own
      statements no_statement own = (λ p. tt, λ q. refl)
      statements (then s ss) own = both _ _ (statement s own) (statements ss own)

    bodies : (fs : List Function) → Fine (function_rules globals (map signature functions) fs)
        ⇔ ScopedFunctions globals functions fs
    bodies [] = (λ p. tt, λ q. refl)
    bodies (f ∷ fs) =
        let h = both _ _ (parameters f.parameters (suc f.place) [])
        (both _ _ (statement f.body (reverse f.parameters)) (bodies fs)) in
        (λ p. let q = h.0 p in ((q.0, q.1.0), q.1.1), λ q. h.1 (q.0.0, (q.0.1, q.1)))

-- ---- global declarations

-- No name of the first list is in the second.
abbrev Apart : List ℕ → List ℕ → Type 0
Apart [] ys = Unit {0}
Apart (x ∷ xs) ys = (Member x ys → ⊥) × Apart xs ys

-- The second list grows by a name x.
apart_more : (x : ℕ) (ys zs : List ℕ) → ((z : ℕ) → Member z zs ⇔ ((z ≡ x) ⊎ Member z ys)) → (xs : List ℕ) →
    Apart xs zs ⇔ (Apart xs ys × (Member x xs → ⊥))
apart_more x ys zs grown [] = (λ p. (tt, λ q. q), λ q. tt)
apart_more x ys zs grown (y ∷ xs) =
    let h = apart_more x ys zs grown xs in (
      λ p.
          let q = h.0 p.1 in (
            (λ m. p.0 ((grown y).1 (inr m)), q.0),
            λ m. elim m
                [ inl e ↦ p.0 ((grown y).1 (inl (sym e))) | inr n ↦ q.1 n ],
          ),
      λ q. (
        λ m. elim ((grown y).0 m) [ inl e ↦ q.1 (inl (sym e)) | inr n ↦ q.0.0 n ],
        h.1
            (q.0.1, λ n. q.1 (inr n)),
      ),
    )

pushed : (x : ℕ) (ys : List ℕ) (z : ℕ) → Member z (x ∷ ys) ⇔ ((z ≡ x) ⊎ Member z ys)
pushed x ys z = (λ m. m, λ m. m)

appended : (x : ℕ) (ys : List ℕ) (z : ℕ) → Member z (ys ++ x ∷ []) ⇔ ((z ≡ x) ⊎ Member z ys)
appended x [] z = (λ m. m, λ m. m)
appended x (y ∷ ys) z =
    let h = appended x ys z in (
      λ m. elim m [ inl e ↦ inr (inl e) | inr n ↦ elim (h.0 n) [ inl e ↦ inl e | inr k ↦ inr (inr k) ] ],
      λ m. elim m [ inl e ↦ inr (h.1 (inl e)) | inr n ↦ elim n [ inl e ↦ inl e | inr k ↦ inr (h.1 (inr k)) ] ],
    )

abbrev names : List Signature → List ℕ
names functions = map (λ (f : Signature). f.name) functions

-- The declarations differ from one another and from those before them.
record Differ (ds : List Declaration) (variables functions : List ℕ) : Type 0 where
  pub new_variables : Apart (map name_of (variables_of ds)) variables
  pub variables_differ : Distinct (map name_of (variables_of ds))
  pub new_functions : Apart (map function_name (functions_of ds)) functions
  pub functions_differ : Distinct (map function_name (functions_of ds))

declarations : (ds : List Declaration) (variables : List ℕ) (functions : List Signature) →
    Fine (global_rules ds variables functions) ⇔ Differ ds variables (names functions)
declarations [] variables functions =
    (λ p. record { new_variables = tt; variables_differ = tt; new_functions = tt; functions_differ = tt }, λ q. refl)
declarations (of_a_variable (declare a x v) ∷ ds) variables functions =
    let h = both _ _ (test (not (is_some (locate x variables))) (DeclaredTwice a)
    (opposite (is_some (locate x variables)) (located x variables)))
    (declarations ds (x ∷ variables) functions) in
    let g = apart_more x variables (x ∷ variables) (pushed x variables) (map name_of (variables_of ds)) in (
      λ p.
          let q = h.0 p in
          let k = g.0 q.1.new_variables in
          record {
            new_variables = (q.0, k.0);
            variables_differ = (k.1, q.1.variables_differ);
            new_functions = q.1.new_functions;
            functions_differ = q.1.functions_differ;
          },
      λ d.
          h.1 (
            d.new_variables.0,
            record {
              new_variables = g.1 (d.new_variables.1, d.variables_differ.0);
              variables_differ = d.variables_differ.1;
              new_functions = d.new_functions;
              functions_differ = d.functions_differ;
            },
          ),
    )
declarations (of_a_function f ∷ ds) variables functions =
    let h = both _ _ (test (not (is_function f.name functions)) (DeclaredTwice f.place)
    (opposite (is_function f.name functions) (listed f.name functions)))
    (declarations ds variables (functions ++ signature f ∷ [])) in
    let fs : List ℕ = map function_name (functions_of ds) in
    let e : names (functions ++ signature f ∷ [])
    ≡ names functions ++ f.name ∷ [] = map-append (λ (g : Signature). g.name) functions (signature f ∷ []) in
    let g : Apart fs (names (functions ++ signature f ∷ []))
    ⇔ (Apart fs (names functions) × (Member f.name fs → ⊥)) =
    rw e (apart_more f.name (names functions) (names functions ++ f.name ∷ [])
    (appended f.name (names functions)) fs) in (
      λ p.
          let q = h.0 p in
          let k = g.0 q.1.new_functions in
          record {
            new_variables = q.1.new_variables;
            variables_differ = q.1.variables_differ;
            new_functions = (q.0, k.0);
            functions_differ = (k.1, q.1.functions_differ);
          },
      λ d.
          h.1 (
            d.new_functions.0,
            record {
              new_variables = d.new_variables;
              variables_differ = d.variables_differ;
              new_functions = g.1 (d.new_functions.1, d.functions_differ.0);
              functions_differ = d.functions_differ.1;
            },
          ),
    )

apart_none : (xs : List ℕ) → Apart xs []
apart_none [] = tt
apart_none (x ∷ xs) = (λ m. m, apart_none xs)

-- ---- a program

pub passes-where-well-named : PassesWhereWellNamed
passes-where-well-named p =
    let fs : List Function = functions_of p.declarations in
    let small = test (leb (largest_need p) 100) FrameNeed (leb-true (largest_need p) 100, le-leb (largest_need p) 100) in
    let h = both _ _ (declarations p.declarations [] [])
    (both _ _ (bodies (global_names p) fs fs) (both _ _ (statement (global_names p) fs p.main []) small)) in (
      λ fine.
          let q = h.0 fine in
          record {
            variables_differ = q.0.variables_differ;
            functions_differ = q.0.functions_differ;
            functions_scoped = q.1.0;
            main_scoped = q.1.1.0;
            small = q.1.1.1;
          },
      λ w.
          h.1 (
            record {
              new_variables = apart_none _;
              variables_differ = w.variables_differ;
              new_functions = apart_none _;
              functions_differ = w.functions_differ;
            },
            (w.functions_scoped, (w.main_scoped, w.small)),
          ),
    )
