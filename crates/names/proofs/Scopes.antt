-- The names in scope, one local after another, and dropped again.
use Rattle.std.proofs.Common.{◌≡◌, ℕ, not, List, [], ◌∷◌, ◌++◌, map, reverse, length, take, ℤ, Ok, Err, Result, sym, refl, ap, ◌∙◌, append_assoc}
use Rattle.std.proofs.lemmas.List.{reverse-append, take_at}
use Rattle.stack.specs.declared.Stack.{Stack}
use Rattle.stack.specs.Store.{contents}
use Rattle.script.specs.declared.refusal.Refusal.{Refusal}
use Rattle.script.specs.declared.refusal.Refusal.TheVariants.{DeclaredTwice}
use Rattle.script.specs.Refusals.{unless}
use Rattle.syntax.specs.Syntax.{VariableDeclaration, declare, Statement, Statements, name_of, bind_names}
use Rattle.syntax.proofs.Statements.{bound}
use Rattle.names.specs.declared.signature.Signature.{Signature}
use Rattle.names.specs.Names.{Answer, local_rules, statement_rules, block_rules, declared}
use Rattle.names.specs.Passes.{outcome}
use Rattle.names.proofs.Outcomes.{refused-own, on}

pub empty : {T : Type 0} (s : Stack T) → s.height ≡ 0 → contents s ≡ []
empty s h = ap (λ (n : ℕ). take n s.words.now) h

-- A declaration of x at a place, and others after it: `seen` are the names that the search went through.
module _ (globals : List ℕ) (ds es : List VariableDeclaration) (a x : ℕ) (v : ℤ) (scope seen : List ℕ)
    (first : ds ≡ declare a x v ∷ es) (same : seen ≡ scope) where
  abbrev new_rule : Answer
  new_rule = unless (not (declared globals x (reverse seen))) (DeclaredTwice a)

  pub local-again : (m : ℕ) (y : Refusal) → Err y ≡ new_rule → Err y ≡ outcome (local_rules globals ds (reverse scope)) m
  local-again m y p = rw (first, ← same) (refused-own new_rule (local_rules globals es (x ∷ reverse seen)) m y p)

  module _ (after : List ℕ) (pushed : after ≡ scope ++ x ∷ []) where
    pub local-new : (m : ℕ) → Ok tt ≡ new_rule →
        outcome (local_rules globals es (reverse after)) m ≡ outcome (local_rules globals ds (reverse scope)) m
    local-new m p =
        let e : reverse after ≡ x ∷ reverse seen = ap reverse pushed ∙ (reverse-append scope (x ∷ []) ∙ rw same refl) in
        rw (first, ← same, e)
        (on new_rule (local_rules globals es (x ∷ reverse seen)) m m
        (outcome (local_rules globals es (x ∷ reverse seen)) m) (sym p) refl refl)

    pub one_more : after ++ map name_of es ≡ scope ++ map name_of ds
    one_more = rw (pushed, first) (append_assoc scope (x ∷ []) (map name_of es))

-- What is left of the scope when a block's locals are dropped.
pub dropped : (scope ys inner seen out : List ℕ) (n : ℕ) → length scope ≡ n → inner ≡ scope ++ ys → seen ≡ inner → out
    ≡ take n seen → out ≡ scope
dropped scope ys inner seen out n l p q h = h ∙ rw (q, p) (take_at scope ys n l)

-- Statements under a block's locals.
module _ (globals : List ℕ) (functions : List Signature) (ss : Statements) (n : ℕ) (r : Result ℕ Refusal) where
  pub inner-scope : (ds : List VariableDeclaration) (scope inner : List ℕ) → inner ≡ scope ++ map name_of ds →
      r ≡ outcome (block_rules globals functions ss (reverse inner)) n → r
      ≡ outcome (block_rules globals functions ss (bind_names ds (reverse scope))) n
  inner-scope ds scope inner e h =
      h ∙ ap (λ (l : List ℕ). outcome (block_rules globals functions ss l) n) (ap reverse e ∙ bound ds scope)

-- A statement on an empty scope.
pub empty-scope : (globals : List ℕ) (functions : List Signature) (s : Statement) (n : ℕ) (r : Result ℕ Refusal)
    (scope : List ℕ) → scope ≡ [] →
    r ≡ outcome (statement_rules globals functions s (reverse scope)) n → r
    ≡ outcome (statement_rules globals functions s []) n
empty-scope globals functions s n r scope e h = h
    ∙ ap (λ (l : List ℕ). outcome (statement_rules globals functions s (reverse l)) n) e
