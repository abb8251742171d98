-- The case of a block: its locals' literals before, the pops and the literal after its statements.
use Rattle.std.proofs.Common.{◌≡◌, ℕ, suc, ◌+◌, ◌≤◌, List, [], ◌∷◌, ◌++◌, length, take, drop, pos, sym, refl, ap, ◌∙◌, subst, append_assoc, arith, length-drop, take-append-drop}
use Rattle.syntax.specs.Syntax.{VariableDeclaration, declare}
use Rattle.syntax.specs.Syntax.{bind_names}
use Rattle.treerun.specs.TreeRun.{State, Outcome, value, returned, ended, bind_words, bind_variables}
use Rattle.treerun.specs.TreeRun.{leave_block}
use Rattle.code.specs.declared.instruction.Operation.TheVariants.{Lit, Pop}
use Rattle.agreement.proofs.Scene.{Scene}
use Rattle.agreement.proofs.Live.{LiveState, go_to, zw}
use Rattle.agreement.proofs.Placed.{Apart, Has, PlacedPushes, PlacedPops}
use Rattle.agreement.proofs.Lists.{bind_names-append, length-bind_names, bind_words-append, length-bind_words}
use Rattle.agreement.proofs.Relation.{Working, Surroundings, tree_state, machine_at, changed, Fits, Any, Reaches, arrived}
use Rattle.agreement.proofs.Relation.{reaches-trans, one_step, at-step, push-fits, Simulates}
use Rattle.agreement.proofs.Parts.{SimulatesValue}
use Rattle.agreement.proofs.Drops.{after_drop, drops-back}

module _ {W : Type 0} (S : Scene W) where
  -- A statement list leaves nothing on the stack.
  abbrev pub SimulatesStatements : Surroundings W → ℕ → ℕ → ℕ → Working W → Outcome W W → Type 0
  SimulatesStatements X p q u c r = Simulates S X (λ (w : W). []) Any [] p q u c r

  abbrev pub with_locals : List VariableDeclaration → Working W → Working W
  with_locals ds c = record {
    names = bind_names ds c.names;
    global_names = c.global_names;
    past_names = drop (length ds) c.past_names;
    past_words = drop (length ds) c.past_words;
    locals = bind_words S.kind ds c.locals;
    globals = c.globals;
    bays = c.bays;
    fuel = c.fuel;
  }

  module _ (X : Surroundings W) where
    pub simulate_pushes :
        (a : ℕ) (ds : List VariableDeclaration) (p i : ℕ) (c : Working W)
        → length c.globals ≡ length S.globals → X.base ≡ length X.below + length S.globals
        → X.limit ≤ S.capacity → length ds + (length c.locals + X.base) ≤ X.limit → PlacedPushes S a ds p i
        → (k j : ℕ) → length ds + j ≤ k
        → Reaches S j (machine_at X [] i (with_locals ds c)) k (machine_at X [] p c)
    simulate_pushes a [] p i c hg hb hr hm h k j l =
        subst (λ (z : ℕ). Reaches S j (machine_at X [] z c) k (machine_at X [] p c)) (sym h) (arrived refl (omega arith))
    simulate_pushes a (declare b x v ∷ ds) p i c hg hb hr hm (h, hs) k j l =
        reaches-trans S
        (one_step S k (length ds + j)
        (at-step S (machine_at X [] p c) (Lit v) a h
        ∙ push-fits S X c [] p (S.kind.literal v) hg hb hr (omega arith))
        refl (omega arith))
        (simulate_pushes a ds (suc p) i (changed (S.kind.literal v ∷ c.locals) c.globals c.bays c)
        hg hb hr (omega arith) hs (length ds + j) j (omega arith))

    pub simulate_pops :
        (a : ℕ) (ds : List VariableDeclaration) (p i : ℕ) (l : List W) (c : Working W)
        → length ds ≤ length l → PlacedPops S a ds p i → (k j : ℕ) → length ds + j ≤ k
        → Reaches S j (machine_at X [] i (changed (drop (length ds) l) c.globals c.bays c)) k
        (machine_at X [] p (changed l c.globals c.bays c))
    simulate_pops a [] p i l c hl h k j le =
        let m : LiveState W = machine_at X [] p (changed l c.globals c.bays c) in
        subst (λ (z : ℕ). Reaches S j (go_to z m.live m) k m) (sym h) (arrived refl (omega arith))
    simulate_pops a (d ∷ ds) p i [] c hl h k j le = absurd (omega arith)
    simulate_pops a (d ∷ ds) p i (w ∷ l) c hl (h, hs) k j le =
        reaches-trans S
        (one_step S k (length ds + j)
        (at-step S (machine_at X [] p (changed (w ∷ l) c.globals c.bays c)) Pop a h) refl (omega arith))
        (simulate_pops a ds (suc p) i l c (omega arith) hs (length ds + j) j (omega arith))

    -- The locals are bound on top in both runs.
    bound-state :
        (ds : List VariableDeclaration) (c : Working W)
        → tree_state X (with_locals ds c) ≡ bind_variables S.kind ds (tree_state X c)
    bound-state ds c =
        let names = bind_names-append ds c.names (X.caller_names ++ c.global_names) in
        let words = bind_words-append S.kind ds c.locals (X.caller_words ++ c.globals) in
        λ t. record {
          names = sym names t;
          words = sym words t;
          past_names = drop (length ds) c.past_names;
          past_words = drop (length ds) c.past_words;
          bays = c.bays;
          fuel = c.fuel;
        }

    pub fits-locals :
        (own : List ℕ) (ds : List VariableDeclaration) (c : Working W)
        → Fits S X own c → Apart S.globals (bind_names ds own) → Fits S X (bind_names ds own) (with_locals ds c)
    fits-locals own ds c o apart =
        record {
          names = ap (λ (z : List ℕ). bind_names ds z) o.names;
          global_names = o.global_names;
          locals = omega (arith, length-bind_words S.kind ds c.locals, length-bind_names ds own, o.locals);
          globals = o.globals;
          callers = o.callers;
          base = o.base;
          apart = apart;
          callers_apart = o.callers_apart;
          opened = o.opened;
          room = o.room;
        }

    -- The statements stand from i to j, and have come to r.
    leaving :
        (a : ℕ) (own : List ℕ) (ds : List VariableDeclaration) (p i j k q u v : ℕ) (c : Working W) (r : Outcome W W)
        → Fits S X own c → PlacedPushes S a ds p i → PlacedPops S a ds j k → Has S k (Lit (pos 0)) a → q ≡ suc k
        → v + (length ds + length ds + 1) ≤ u → 1 + (length c.locals + X.base) ≤ X.limit
        → length ds + (length c.locals + X.base) ≤ X.limit → SimulatesStatements X i j v (with_locals ds c) r
        → SimulatesValue S X [] [] p q u c (leave_block (zw S) (tree_state X c) r)
    leaving a own ds p i j k q u v c (value w σ) o hl hp hz eq hu m₁ m₂ (c₂, e, kp, y, g) =
        let n : ℕ = length ds in
        let len : length (bind_words S.kind ds c.locals) ≡ n + length c.locals =
        length-bind_words S.kind ds c.locals in
        let locals : List W = drop n c₂.locals in
        let c₃ : Working W = after_drop X c σ locals c₂ in
        let l₃ : length locals ≡ length c.locals = simp length-drop (omega (arith, kp.locals, len)) in
        let words : σ.words ≡ take n c₂.locals ++ (locals ++ (X.caller_words ++ c₂.globals)) =
        ap (λ (s : State W). s.words) e
        ∙ ap (λ (z : List W). z ++ (X.caller_words ++ c₂.globals)) (sym (take-append-drop n c₂.locals))
        ∙ append_assoc (take n c₂.locals) locals (X.caller_words ++ c₂.globals) in
        let names : σ.names ≡ bind_names ds [] ++ (c.names ++ (X.caller_names ++ c₂.global_names)) =
        ap (λ (s : State W). s.names) e
        ∙ ap (λ (z : List ℕ). z ++ (X.caller_names ++ c₂.global_names))
        (kp.names ∙ bind_names-append ds [] c.names)
        ∙ append_assoc (bind_names ds []) c.names (X.caller_names ++ c₂.global_names) in (
          c₃,
          drops-back X c c₂ σ (bind_names ds []) (take n c₂.locals) locals names words l₃ kp.globals
              kp.global_names (ap (λ (s : State W). s.bays) e) (ap (λ (s : State W). s.fuel) e),
          record {
            names = refl;
            global_names = kp.global_names;
            locals = l₃;
            globals = kp.globals;
            fuel = kp.fuel;
          },
          tt,
          λ z y l.
              reaches-trans S (before z (v + (n + 1 + y)) (omega arith))
              (reaches-trans S (g (v + (n + 1 + y)) (n + 1 + y) (omega arith))
              (reaches-trans S
              (simulate_pops a ds j k c₂.locals c₂ (omega (arith, kp.locals, len)) hp (n + 1 + y) (suc y)
              (omega arith))
              (subst (λ (t : ℕ). Reaches S y (machine_at X (zw S ∷ []) t c₃) (suc y) (machine_at X [] k c₃))
              (sym eq)
              (one_step S (suc y) y
              (at-step S (machine_at X [] k c₃) (Lit (pos 0)) a hz
              ∙ push-fits S X c₃ [] k (zw S) (kp.globals ∙ o.globals) o.base (omega (arith, o.room))
              (omega (arith, l₃)))
              refl (omega arith))))),
        )
      where
        before :
            (z y : ℕ) → length ds + y ≤ z
            → Reaches S y (machine_at X [] i (with_locals ds c)) z (machine_at X [] p c)
        before z y l = simulate_pushes a ds p i c o.globals o.base (omega (arith, o.room)) m₂ hl z y l
    leaving a own ds p i j k q u v c (returned w σ) o hl hp hz eq hu m₁ m₂ (c₂, e, lg, lf, i₁, a₁, h, g) = (
      c₂,
      e,
      lg,
      lf,
      i₁,
      a₁,
      h,
      λ z y l.
          reaches-trans S
          (simulate_pushes a ds p i c o.globals o.base (omega (arith, o.room)) m₂ hl z (v + y) (omega arith))
          (g (v + y) y (omega arith)),
    )
    leaving a own ds p i j k q u v c (ended n a₁ σ) o hl hp hz eq hu m₁ m₂ (m, m', s, sm, g) = (
      m,
      m',
      s,
      sm,
      λ z l.
          reaches-trans S
          (simulate_pushes a ds p i c o.globals o.base (omega (arith, o.room)) m₂ hl z v (omega arith))
          (g v (omega arith)),
    )

    pub simulate_block :
        (a : ℕ) (own : List ℕ) (ds : List VariableDeclaration) (p i j k q u v : ℕ) (c : Working W)
        (statements : State W → Outcome W W)
        → Fits S X own c → PlacedPushes S a ds p i → PlacedPops S a ds j k → Has S k (Lit (pos 0)) a → q ≡ suc k
        → v + (length ds + length ds + 1) ≤ u → 1 + (length c.locals + X.base) ≤ X.limit
        → length ds + (length c.locals + X.base) ≤ X.limit
        → SimulatesStatements X i j v (with_locals ds c) (statements (tree_state X (with_locals ds c)))
        → SimulatesValue S X [] [] p q u c
        (leave_block (zw S) (tree_state X c) (statements (bind_variables S.kind ds (tree_state X c))))
    simulate_block a own ds p i j k q u v c statements o hl hp hz eq hu m₁ m₂ h =
        subst
        (λ (σ : State W). SimulatesValue S X [] [] p q u c (leave_block (zw S) (tree_state X c) (statements σ)))
        (bound-state ds c) (leaving a own ds p i j k q u v c _ o hl hp hz eq hu m₁ m₂ h)
