-- Every part keeps the bindings that it found, but for their words.
use Rattle.std.proofs.Common.{◌≡◌, ℕ, suc, ◌+◌, ◌-◌, ◌≤◌, Bool, true, false, cond, eqb, List, [], ◌∷◌, ◌++◌, map, reverse, length, drop, sym, refl, ap, ◌∙◌, append_assoc, arith, length-append, length-drop}
use mathlib.Core.List.{reverse-cons}
use lib.Seq.{drop-append_seam}
use Rattle.kinds.specs.Kinds.{Kind}
use Rattle.syntax.specs.Syntax.{VariableDeclaration, declare, bind_names, name_of, number_of}
use Rattle.treerun.specs.TreeRun.{Setting, State, store, bind_words, oldest, drop_to, bind_variables, bind_parameters}
use Rattle.treerun.specs.TreeRun.{setting_of}
use Rattle.treerun.specs.Laws.{SameBindings, OldestBindings, PartsKeep, PartsKeepBindings}
use Rattle.treerun.proofs.Keeps.{Steps, expression-run-keeps, arguments-run-keeps, statement-run-keeps}
use Rattle.treerun.proofs.Keeps.{statements-run-keeps}

-- The oldest of a list are those it was built on.
pub oldest-append : {A : Type 0} (xs ys : List A) → oldest (length ys) (xs ++ ys) ≡ ys
oldest-append xs ys =
    let n : length (xs ++ ys) - length ys ≡ length xs = omega (arith, length-append xs ys) in
    ap (λ (k : ℕ). drop k (xs ++ ys)) n ∙ drop-append_seam xs ys

pub length-oldest : {A : Type 0} (n : ℕ) (xs : List A) → n ≤ length xs → length (oldest n xs) ≡ n
length-oldest n xs h = omega (arith, length-drop (length xs - n) xs)

-- The names of variables bound come on top of those that stood.
pub bound-names : (ds : List VariableDeclaration) (ns : List ℕ) → bind_names ds ns ≡ reverse (map name_of ds) ++ ns
bound-names [] ns = refl
bound-names (declare a x v ∷ ds) ns =
    bound-names ds (x ∷ ns)
    ∙ (sym (append_assoc (reverse (map name_of ds)) (x ∷ []) ns)
    ∙ ap (λ (xs : List ℕ). xs ++ ns) (sym (reverse-cons x (map name_of ds))))

pub length-names : (ds : List VariableDeclaration) (ns : List ℕ) → length (bind_names ds ns) ≡ length ds + length ns
length-names [] ns = omega arith
length-names (declare a x v ∷ ds) ns = omega (arith, length-names ds (x ∷ ns))

module _ {W : Type 0} where
  -- The words of variables declared, in their order.
  abbrev pub words_of : Kind W → List VariableDeclaration → List W
  words_of kind ds = map (λ d. kind.literal (number_of d)) ds

  pub bound-words : (kind : Kind W) (ds : List VariableDeclaration) (ws : List W) →
      bind_words kind ds ws ≡ reverse (words_of kind ds) ++ ws
  bound-words kind [] ws = refl
  bound-words kind (declare a x v ∷ ds) ws =
      bound-words kind ds (kind.literal v ∷ ws)
      ∙ (sym (append_assoc (reverse (words_of kind ds)) (kind.literal v ∷ []) ws)
      ∙ ap (λ (us : List W). us ++ ws) (sym (reverse-cons (kind.literal v) (words_of kind ds))))

  pub length-bound : (kind : Kind W) (ds : List VariableDeclaration) (ws : List W) →
      length (bind_words kind ds ws) ≡ length ds + length ws
  length-bound kind [] ws = omega arith
  length-bound kind (declare a x v ∷ ds) ws = omega (arith, length-bound kind ds (kind.literal v ∷ ws))

  pub length-store : (x : ℕ) (v : W) (ns : List ℕ) (ws : List W) → length (store x v ns ws) ≡ length ws
  length-store x v [] ws = refl
  length-store x v (n ∷ ns) [] = refl
  length-store x v (n ∷ ns) (w ∷ ws) = at (eqb x n) (length-store x v ns ws)
    where
      at : (b : Bool) → length (store x v ns ws) ≡ length ws →
          length (cond b (v ∷ ws) (w ∷ store x v ns ws)) ≡ suc (length ws)
      at true h = refl
      at false h = ap suc h

  pub same-is-oldest : (σ τ : State W) → SameBindings σ τ → OldestBindings σ τ
  same-is-oldest σ τ h = (([], h.0), omega (arith, h.1))

  pub oldest-after : (σ τ υ : State W) → OldestBindings σ τ → OldestBindings τ υ → OldestBindings σ υ
  oldest-after σ τ υ g h = (
    (
      h.0.0 ++ g.0.0,
      h.0.1 ∙ (ap (λ (ns : List ℕ). h.0.0 ++ ns) g.0.1 ∙ sym (append_assoc h.0.0 g.0.0 σ.names)),
    ),
    omega (arith, g.1, h.1),
  )

  -- The bindings of an earlier state, where the newer ones are dropped.
  pub drop-to-oldest : (σ τ : State W) → OldestBindings σ τ → SameBindings σ (drop_to σ τ)
  drop-to-oldest σ τ h = (
    ap (λ (ns : List ℕ). oldest (length σ.names) ns) h.0.1 ∙ oldest-append h.0.0 σ.names,
    length-oldest (length σ.words) τ.words h.1,
  )

  pub variables-on-top : (kind : Kind W) (σ : State W) (ds : List VariableDeclaration) →
      OldestBindings σ (bind_variables kind ds σ)
  variables-on-top kind σ ds =
      ((reverse (map name_of ds), bound-names ds σ.names), omega (arith, length-bound kind ds σ.words))

  pub parameters-on-top : (σ : State W) (parameters : List ℕ) (ws : List W) →
      OldestBindings σ (bind_parameters parameters ws σ)
  parameters-on-top σ parameters ws = ((reverse parameters, refl), omega (arith, length-append ws σ.words))

module _ {W : Type 0} (S : Setting W) where
  abbrev pub binding-steps : Steps S
  binding-steps = record {
    OnValue = SameBindings;
    OnExit = OldestBindings;
    same = λ σ. (refl, refl);
    after = λ σ τ υ g h. (h.0 ∙ g.0, h.1 ∙ g.1);
    exits = λ σ. same-is-oldest σ σ (refl, refl);
    exits_after = λ σ τ υ g h. oldest-after σ τ υ (same-is-oldest σ τ g) h;
    stores = λ σ x w. (refl, length-store x w σ.names σ.words);
    writes = λ σ i w. (refl, refl);
    spends = λ σ n e. (refl, refl);
    leaves_block = λ σ τ ds h. drop-to-oldest σ τ
        (oldest-after σ (bind_variables S.kind ds σ) τ (variables-on-top S.kind σ ds)
        (same-is-oldest (bind_variables S.kind ds σ) τ h));
    exits_block = λ σ τ ds h. oldest-after σ (bind_variables S.kind ds σ) τ (variables-on-top S.kind σ ds) h;
    leaves_call = λ σ τ parameters ws h. drop-to-oldest σ τ
        (oldest-after σ (bind_parameters parameters ws σ) τ (parameters-on-top σ parameters ws) h);
    exits_call = λ σ τ parameters ws h.
        oldest-after σ (bind_parameters parameters ws σ) τ (parameters-on-top σ parameters ws) h;
  }

  pub parts-keep : PartsKeep S
  parts-keep = record {
    of_expression = λ e calls σ. expression-run-keeps binding-steps calls σ e;
    of_arguments = λ es calls ws σ. arguments-run-keeps binding-steps calls σ es ws;
    of_statement = λ s calls σ. statement-run-keeps binding-steps calls σ s;
    of_statements = λ ss calls σ. statements-run-keeps binding-steps calls σ ss;
  }

pub parts-keep-bindings : {W : Type 0} (kind : Kind W) → PartsKeepBindings kind
parts-keep-bindings kind holds p depth = parts-keep (setting_of kind holds p depth)
