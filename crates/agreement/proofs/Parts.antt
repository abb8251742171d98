-- The cases of the simulation that are one instruction, or one instruction and then a part.
use Rattle.std.proofs.Common.{◌≡◌, ℕ, zero, suc, ◌+◌, ◌-◌, ◌<◌, ◌≤◌, Bool, true, false, cond, T, ltb, List, [], ◌∷◌, ◌++◌, length, set, ℤ, Some, None, Option, sym, refl, ap, ◌∙◌, subst, inl, inr, append_assoc, arith}
use Rattle.std.specs.List.{slice_get}
use Rattle.script.specs.declared.rows.Operator.{Operator}
use Rattle.script.specs.declared.rows.Operator.TheVariants.{Sum, Difference, Greater}
use Rattle.script.specs.declared.ending.Ending.{Ending}
use Rattle.script.specs.declared.ending.Ending.TheVariants.{NoFuel, NoSuchBay, CannotHold}
use Rattle.script.specs.Bays.{BayAnswer, gives, fails, found, read_bay, write_bay}
use Rattle.treerun.specs.TreeRun.{State, Outcome, value, returned, ended, look_up, store, apply, with_words}
use Rattle.treerun.specs.TreeRun.{and_then, branch, spend_from, spend, answered}
use Rattle.code.specs.declared.instruction.Operation.TheVariants.{Lit, GetL, SetL, GetG, SetG, Jz, Tick}
use Rattle.code.specs.Scheme.{operator_code}
use Rattle.agreement.proofs.Scene.{Scene}
use Rattle.agreement.proofs.Live.{LiveState, goes, stops, from_bottom, set_from_bottom, top_two, go_on, live_spend}
use Rattle.agreement.proofs.Live.{live_answer, zw, live_execute, live_step}
use Rattle.agreement.proofs.Placed.{Has, PlacedVariable}
use Rattle.agreement.proofs.Lists.{length-set_from_bottom, inside-true}
use Rattle.agreement.proofs.Relation.{Working, Surroundings, tree_state, machine_at, with_fuel_left, changed, Keeps, Fits}
use Rattle.agreement.proofs.Relation.{Unfinished, keeps-refl, keeps-changed, keeps-spent, keeps-trans, Any, arrived}
use Rattle.agreement.proofs.Relation.{reaches-trans, one_step, one_tick, at-step, push-fits, Simulates, preceded}
use Rattle.agreement.proofs.Relation.{last_step, in_sequence}
use Rattle.agreement.proofs.Slots.{local-in, global-in, local-look, global-look, local-put, global-put}

-- What a bay answers gives no ending with an answer.
abbrev pub BayUnfinished : {W : Type 0} → BayAnswer W → Type 0
BayUnfinished (gives w bays) = Unit {0}
BayUnfinished (fails e) = Unfinished e

pub read-unfinished : {W : Type 0} (bays : List W) (slot : Option ℕ) → BayUnfinished (read_bay bays slot)
read-unfinished bays None = tt
read-unfinished bays (Some i) =
    elim (slice_get bays i) as (λ o. BayUnfinished (found bays o)) [ None ↦ tt | Some w ↦ tt ]

module _ {W : Type 0} (S : Scene W) where
  pub write-unfinished :
      (bays : List W) (slot : Option ℕ) (w : W) → BayUnfinished (write_bay S.holds bays slot w)
  write-unfinished bays None w = tt
  write-unfinished bays (Some i) w = by (ltb i (length bays)) (S.holds w)
    where
      by :
          (b h : Bool)
          → BayUnfinished (cond b (cond h (gives w (set bays i w)) (fails CannotHold)) (fails NoSuchBay))
      by true true = tt
      by true false = tt
      by false h = tt

  -- The operation of an operator applies it.
  pub execute-operator :
      (o : Operator) (a : ℕ) (x y : W) (s : List W) (m : LiveState W) → m.live ≡ y ∷ x ∷ s
      → live_execute S (operator_code o) a m ≡ goes (go_on (apply S.kind o x y ∷ s) m)
  execute-operator Sum a x y s m e = ap (λ (l : List W). top_two l (λ y x s. goes (go_on (S.kind.sum x y ∷ s) m))) e
  execute-operator Difference a x y s m e =
      ap (λ (l : List W). top_two l (λ y x s. goes (go_on (S.kind.difference x y ∷ s) m))) e
  execute-operator Greater a x y s m e =
      ap (λ (l : List W). top_two l (λ y x s. goes (go_on (apply S.kind Greater x y ∷ s) m))) e

  -- A value is pushed onto U.
  abbrev pub SimulatesValue : Surroundings W → List W → List W → ℕ → ℕ → ℕ → Working W → Outcome W W → Type 0
  SimulatesValue X U T p q u c r = Simulates S X (λ (w : W). w ∷ U) Any T p q u c r

  module _ (X : Surroundings W) where
    -- One instruction that gives a value.
    pub value_step :
        (w : W) (σ : State W) (T U : List W) (j q u : ℕ) (c c' : Working W)
        → q ≡ suc j → σ ≡ tree_state X c' → Keeps c c' → 1 ≤ u → c.fuel ≡ c'.fuel
        → live_step S (machine_at X U j c) ≡ goes (machine_at X (w ∷ T) (suc j) c')
        → SimulatesValue X T U j q u c (value w σ)
    value_step w σ T U j q u c c' eq e kp hu hf s =
        subst (λ (z : ℕ). SimulatesValue X T U j z u c (value w σ)) (sym eq)
        (last_step S X (λ (w : W). w ∷ T) Any w σ U j u c c' e kp tt hu hf s)

    -- LIT
    pub simulate_literal :
        (a : ℕ) (v : ℤ) (own : List ℕ) (p q u : ℕ) (c : Working W) (T : List W)
        → Fits S X own c → Has S p (Lit v) a → q ≡ suc p → 1 ≤ u
        → length T + (length c.locals + X.base) < X.limit
        → SimulatesValue X T T p q u c (value (S.kind.literal v) (tree_state X c))
    simulate_literal a v own p q u c T o h eq hu hm =
        value_step (S.kind.literal v) (tree_state X c) T T p q u c c eq refl (keeps-refl c) hu refl
        (at-step S (machine_at X T p c) (Lit v) a h
        ∙ push-fits S X c T p (S.kind.literal v) o.globals o.base (omega (arith, o.room)) hm)

    -- GETL, GETG
    pub simulate_variable :
        (a x : ℕ) (own : List ℕ) (p q u : ℕ) (c : Working W) (T : List W)
        → Fits S X own c → PlacedVariable S GetL GetG a x own p → q ≡ suc p → 1 ≤ u
        → length T + (length c.locals + X.base) < X.limit
        → SimulatesValue X T T p q u c
        (value (look_up (zw S) x (tree_state X c).names (tree_state X c).words) (tree_state X c))
    simulate_variable a x own p q u c T o (inl (k, e, h)) eq hu hm =
        let stack : List W = (machine_at X T p c).live in
        value_step _ (tree_state X c) T T p q u c c eq refl (keeps-refl c) hu refl
        (at-step S (machine_at X T p c) (GetL k) a h
        ∙ inside-true (X.base + k) stack _ (local-in S X own c o x k T e)
        ∙ push-fits S X c T p (from_bottom (zw S) stack (X.base + k)) o.globals o.base
        (omega (arith, o.room)) hm
        ∙ ap (λ (v : W). goes (machine_at X (v ∷ T) (suc p) c)) (local-look S X own c o x k T e))
    simulate_variable a x own p q u c T o (inr (k, e, e₂, h)) eq hu hm =
        let stack : List W = (machine_at X T p c).live in
        value_step _ (tree_state X c) T T p q u c c eq refl (keeps-refl c) hu refl
        (at-step S (machine_at X T p c) (GetG k) a h
        ∙ inside-true k stack _ (global-in S X own c o x k T e₂)
        ∙ push-fits S X c T p (from_bottom (zw S) stack k) o.globals o.base (omega (arith, o.room)) hm
        ∙ ap (λ (v : W). goes (machine_at X (v ∷ T) (suc p) c)) (global-look S X own c o x k T e e₂))

    -- SETL, SETG
    pub simulate_assignment :
        (a x : ℕ) (own : List ℕ) (p q u : ℕ) (c : Working W) (T : List W) (w : W)
        → Fits S X own c → PlacedVariable S SetL SetG a x own p → q ≡ suc p → 1 ≤ u
        → SimulatesValue X T (w ∷ T) p q u c
        (value w (with_words (store x w (tree_state X c).names (tree_state X c).words) (tree_state X c)))
    simulate_assignment a x own p q u c T w o (inl (k, e, h)) eq hu =
        let f = local-put S X own c o x k T w e in
        let locals : List W = set_from_bottom c.locals k w in
        value_step w _ T (w ∷ T) p q u c (changed locals c.globals c.bays c) eq
        (ap (λ (z : List W). with_words z (tree_state X c)) f.1)
        (keeps-changed locals c.globals c.bays c (length-set_from_bottom c.locals k w) refl) hu refl
        (at-step S (machine_at X (w ∷ T) p c) (SetL k) a h
        ∙ inside-true (X.base + k) (machine_at X T p c).live _ (local-in S X own c o x k T e)
        ∙ ap (λ (z : List W). goes (go_on (w ∷ z) (machine_at X T p c))) f.0)
    simulate_assignment a x own p q u c T w o (inr (k, e, e₂, h)) eq hu =
        let f = global-put S X own c o x k T w e e₂ in
        let globals : List W = set_from_bottom c.globals k w in
        value_step w _ T (w ∷ T) p q u c (changed c.locals globals c.bays c) eq
        (ap (λ (z : List W). with_words z (tree_state X c)) f.1)
        (keeps-changed c.locals globals c.bays c refl (length-set_from_bottom c.globals k w)) hu refl
        (at-step S (machine_at X (w ∷ T) p c) (SetG k) a h
        ∙ inside-true k (machine_at X T p c).live _ (global-in S X own c o x k T e₂)
        ∙ ap (λ (z : List W). goes (go_on (w ∷ z) (machine_at X T p c))) f.0)

    -- Both runs end with the state as it is.
    pub simulate_ending :
        {A : Type 0} (up : A → List W) (Q : A → Type 0) (e : Ending) (a : ℕ) (own : List ℕ) (U : List W)
        (p q u : ℕ) (c : Working W)
        → Unfinished e → Fits S X own c → 1 ≤ u
        → live_step S (machine_at X U p c) ≡ stops e a (machine_at X U p c)
        → Simulates S X up Q U p q u c (ended e a (tree_state X c))
    simulate_ending up Q e a own U p q u c un o hu s = (
      machine_at X U p c,
      machine_at X U p c,
      (s, refl, un),
      record {
        bindings = c.locals ++ X.caller_words;
        stack = U ++ (c.locals ++ X.below);
        globals = c.globals;
        words = sym (append_assoc c.locals X.caller_words c.globals);
        live = simp append_assoc;
        counted = o.globals;
        bays = refl;
        fuel = refl;
      },
      λ k h. arrived refl (omega arith),
    )

    -- BAYR, BAYW
    pub simulate_bay :
        (a : ℕ) (own : List ℕ) (U T : List W) (p q u : ℕ) (c : Working W) (y : BayAnswer W)
        → BayUnfinished y → Fits S X own c → q ≡ suc p → 1 ≤ u
        → live_step S (machine_at X U p c) ≡ live_answer a y (machine_at X T p c).live (machine_at X U p c)
        → SimulatesValue X T U p q u c (answered a y (tree_state X c))
    simulate_bay a own U T p q u c (gives w bays) un o eq hu s =
        value_step w _ T U p q u c (changed c.locals c.globals bays c) eq refl
        (keeps-changed c.locals c.globals bays c refl refl) hu refl s
    simulate_bay a own U T p q u c (fails e) un o eq hu s =
        simulate_ending (λ (w : W). w ∷ T) Any e a own U p q u c un o hu s

    -- A jump after a part.
    pub then_jump :
        (T U : List W) (p i q u v : ℕ) (c : Working W) (r : Outcome W W) → v + 1 ≤ u
        → ((w : W) (c' : Working W) → live_step S (machine_at X (w ∷ U) i c') ≡ goes (machine_at X (w ∷ U) q c'))
        → SimulatesValue X U T p i v c r → SimulatesValue X U T p q u c r
    then_jump T U p i q u v c (value w σ) hu s (c', e, kp, y, g) = (
      c',
      e,
      kp,
      y,
      λ k j h. reaches-trans S (g k (suc j) (omega arith)) (one_step S (suc j) j (s w c') refl (omega arith)),
    )
    then_jump T U p i q u v c (returned w σ) hu s (c', e, lg, lf, i₁, a, z, g) =
        (c', e, lg, lf, i₁, a, z, λ k j h. g k j (omega arith))
    then_jump T U p i q u v c (ended n a σ) hu s (m, m', st, sm, g) = (m, m', st, sm, λ k h. g k (omega arith))

    -- TICK before a part.
    pub simulate_tick :
        (a : ℕ) (own : List ℕ) (p q u v : ℕ) (c : Working W) (f : State W → Outcome W W)
        → Fits S X own c → Has S p Tick a → 1 ≤ u → v < u + length S.code
        → ((n : ℕ) → c.fuel ≡ suc n
        → SimulatesValue X [] [] (suc p) q v (with_fuel_left n c) (f (tree_state X (with_fuel_left n c))))
        → SimulatesValue X [] [] p q u c (spend a (tree_state X c) f)
    simulate_tick a own p q u v c f o h hu hv k = at_fuel c.fuel refl
      where
        ticking :
            (n : ℕ) → c.fuel ≡ n
            → live_step S (machine_at X [] p c)
            ≡ live_spend a n (machine_at X [] p c) (λ (m : LiveState W). goes (go_on m.live m))
        ticking n e =
            at-step S (machine_at X [] p c) Tick a h
            ∙ ap (λ (n : ℕ). live_spend a n (machine_at X [] p c) (λ (m : LiveState W). goes (go_on m.live m))) e

        at_fuel : (n : ℕ) → c.fuel ≡ n → SimulatesValue X [] [] p q u c (spend_from a n (tree_state X c) f)
        at_fuel zero e = simulate_ending (λ (w : W). w ∷ []) Any NoFuel a own [] p q u c tt o hu (ticking 0 e)
        at_fuel (suc n) e =
            preceded S X (λ (w : W). w ∷ []) Any (f (tree_state X (with_fuel_left n c))) [] [] p (suc p) q u v c
            (with_fuel_left n c) (keeps-spent n c e)
            (λ k j l. one_tick S k (v + j) (ticking (suc n) e) e (omega arith))
            (k n e)

    -- JZ before one of two parts.
    pub simulate_branch :
        (a i t q u v : ℕ) (w : W) (c : Working W) (f g : State W → Outcome W W)
        → Has S i (Jz t) a → v + 1 ≤ u
        → (S.kind.zero w ≡ true → SimulatesValue X [] [] t q v c (f (tree_state X c)))
        → (S.kind.zero w ≡ false → SimulatesValue X [] [] (suc i) q v c (g (tree_state X c)))
        → SimulatesValue X [] (w ∷ []) i q u c (branch (S.kind.zero w) (tree_state X c) f g)
    simulate_branch a i t q u v w c f g h hu on-zero otherwise = at_bool (S.kind.zero w) refl
      where
        jumping :
            (b : Bool) → S.kind.zero w ≡ b
            → live_step S (machine_at X (w ∷ []) i c) ≡ goes (machine_at X [] (cond b t (suc i)) c)
        jumping b e =
            at-step S (machine_at X (w ∷ []) i c) (Jz t) a h
            ∙ ap (λ (b : Bool). goes (machine_at X [] (cond b t (suc i)) c)) e

        at_bool :
            (b : Bool) → S.kind.zero w ≡ b → SimulatesValue X [] (w ∷ []) i q u c (branch b (tree_state X c) f g)
        at_bool true e =
            preceded S X (λ (w : W). w ∷ []) Any (f (tree_state X c)) [] (w ∷ []) i t q u v c c (keeps-refl c)
            (λ k j l. one_step S k (v + j) (jumping true e) refl (omega arith)) (on-zero e)
        at_bool false e =
            preceded S X (λ (w : W). w ∷ []) Any (g (tree_state X c)) [] (w ∷ []) i (suc i) q u v c c (keeps-refl c)
            (λ k j l. one_step S k (v + j) (jumping false e) refl (omega arith)) (otherwise e)

    -- What runs on the word that a part has pushed onto T.
    pub after_value :
        (U T : List W) (r : Outcome W W) (f : W → State W → Outcome W W) (p i q u v : ℕ) (c : Working W)
        → (i - p) + v ≤ u → SimulatesValue X T T p i (i - p) c r
        → ((w : W) (c' : Working W) → Keeps c c' → SimulatesValue X U (w ∷ T) i q v c' (f w (tree_state X c')))
        → SimulatesValue X U T p q u c (and_then r f)
    after_value U T r f p i q u v c hu h next =
        in_sequence S X (λ (w : W). w ∷ U) Any (λ (w : W). w ∷ T) Any r f T p i q u (i - p) v c hu h
        (λ w c' kp _. next w c' kp)

    -- What runs on the words that two parts have pushed onto T.
    pub after_two_values :
        (T : List W) (r : Outcome W W) (next : State W → Outcome W W) (f : W → W → State W → Outcome W W)
        (p i j q u : ℕ) (c : Working W)
        → (i - p) + ((j - i) + 1) ≤ u → SimulatesValue X T T p i (i - p) c r
        → ((v : W) (c₁ : Working W) → Keeps c c₁
        → SimulatesValue X (v ∷ T) (v ∷ T) i j (j - i) c₁ (next (tree_state X c₁)))
        → ((v w : W) (c₂ : Working W) → Keeps c c₂
        → SimulatesValue X T (w ∷ v ∷ T) j q 1 c₂ (f v w (tree_state X c₂)))
        → SimulatesValue X T T p q u c (and_then r (λ v σ. and_then (next σ) (λ w σ. f v w σ)))
    after_two_values T r next f p i j q u c hu first second last =
        after_value T T _ _ p i q u ((j - i) + 1) c hu first
        (λ v c₁ k₁. after_value T (v ∷ T) _ _ i j q ((j - i) + 1) 1 c₁ (omega arith) (second v c₁ k₁)
        (λ w c₂ k₂. last v w c₂ (keeps-trans k₁ k₂)))
