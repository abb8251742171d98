-- Facts on lists that stand newest first: words counted from the bottom, names and their newest binding.
use Rattle.std.proofs.Common.{◌≡◌, ℕ, zero, suc, ◌+◌, ◌-◌, ◌<◌, ◌≤◌, Bool, true, false, cond, T, eqb, ltb, leb, ◌≢◌, List, [], ◌∷◌, ◌++◌, length, drop, Some, None, Option, sym, refl, ap, ◌∙◌, subst, not-suc-le-zero, zero-add, arith, le→leb, eqb→eq, ltb→lt, lt→ltb, length-append}
use native.Mathlib.Decide.{ℕ_discrete}
use lib.Seq.{drop-append_seam}
use lib.Dec.{eqb_refl}
use Rattle.std.specs.List.{slice_get}
use Rattle.kinds.specs.Kinds.{Kind}
use Rattle.syntax.specs.Syntax.{VariableDeclaration, declare}
use Rattle.syntax.specs.Syntax.{bind_names, locate}
use Rattle.treerun.specs.TreeRun.{look_up, store, bind_words, oldest}
use Rattle.agreement.proofs.Live.{LiveProgress, from_bottom, set_from_bottom, only, inside, above}
use Rattle.agreement.proofs.Placed.{Apart}

is_true : (b : Bool) → T b → b ≡ true
is_true true t = refl
is_true false t = elim t [ ]

is_false : (b : Bool) → (T b → ⊥) → b ≡ false
is_false true t = absurd (t tt)
is_false false t = refl

pub eqb-true : (m n : ℕ) → m ≡ n → eqb m n ≡ true
eqb-true m n e = is_true (eqb m n) (subst (λ (k : ℕ). T (eqb m k)) e (eqb_refl m))

pub eqb-equal : (m n : ℕ) → eqb m n ≡ true → m ≡ n
eqb-equal m n e = eqb→eq m n (subst (λ (b : Bool). T b) (sym e) tt)

pub eqb-ne : (m n : ℕ) → m ≢ n → eqb m n ≡ false
eqb-ne m n h = is_false (eqb m n) (λ t. h (eqb→eq m n t))

pub ltb-true : (m n : ℕ) → m < n → ltb m n ≡ true
ltb-true m n h = is_true (ltb m n) (lt→ltb m n h)

pub ltb-false : (m n : ℕ) → n ≤ m → ltb m n ≡ false
ltb-false m n h = is_false (ltb m n) (λ t. (let l : m < n = ltb→lt m n t in omega arith))

pub no-some : {A : Type 0} {a : A} → ◌≡◌ {A = Option A} None (Some a) → ⊥
no-some {A} {a} e = let z : ◌≡◌ {A = ℕ} 0 1 = cc in omega arith

pub slice_get-lt : {A : Type 0} (l : List A) (i : ℕ) (a : A) → slice_get l i ≡ Some a → i < length l
slice_get-lt [] i a e = absurd (no-some e)
slice_get-lt (x ∷ l) zero a e = omega arith
slice_get-lt (x ∷ l) (suc i) a e = omega (arith, slice_get-lt l i a e)

pub some_inj : {A : Type 0} {a b : A} → ◌≡◌ {A = Option A} (Some a) (Some b) → a ≡ b
some_inj e = cc

module _ {W : Type 0} (d : W) where
  pub from_bottom-skip : (A B : List W) (i : ℕ) → i < length B → from_bottom d (A ++ B) i ≡ from_bottom d B i
  from_bottom-skip [] B i h = refl
  from_bottom-skip (a ∷ A) B i h =
      let ne : i ≢ length (A ++ B) = simp length-append (omega arith) in
      rw (eqb-ne i (length (A ++ B)) ne) (from_bottom-skip A B i h)

  pub from_bottom-up : (A B : List W) (k : ℕ) → k < length A → from_bottom d (A ++ B) (length B + k) ≡ from_bottom d A k
  from_bottom-up [] B k h = absurd (not-suc-le-zero h)
  from_bottom-up (a ∷ A) B k h = go (ℕ_discrete k (length A)) (λ y. from_bottom-up A B k y)
    where
      go : Dec (k ≡ length A) → (k < length A → from_bottom d (A ++ B) (length B + k) ≡ from_bottom d A k)
          → from_bottom d ((a ∷ A) ++ B) (length B + k) ≡ from_bottom d (a ∷ A) k
      go (yes e) ih =
          let e₁ : length B + k ≡ length (A ++ B) = simp length-append (omega arith) in
          rw (eqb-true (length B + k) (length (A ++ B)) e₁, eqb-true k (length A) e)
      go (no n) ih =
          let n₁ : length B + k ≢ length (A ++ B) = simp length-append (λ z. n (omega arith)) in
          rw (eqb-ne (length B + k) (length (A ++ B)) n₁, eqb-ne k (length A) n) (ih (omega arith))

module _ {W : Type 0} where
  pub set_from_bottom-skip : (v : W) (A B : List W) (i : ℕ) → i < length B
      → set_from_bottom (A ++ B) i v ≡ A ++ set_from_bottom B i v
  set_from_bottom-skip v [] B i h = refl
  set_from_bottom-skip v (a ∷ A) B i h =
      let ne : i ≢ length (A ++ B) = simp length-append (omega arith) in
      rw (eqb-ne i (length (A ++ B)) ne) (ap (λ (s : List W). a ∷ s) (set_from_bottom-skip v A B i h))

  pub set_from_bottom-up : (v : W) (A B : List W) (k : ℕ) → k < length A
      → set_from_bottom (A ++ B) (length B + k) v ≡ set_from_bottom A k v ++ B
  set_from_bottom-up v [] B k h = absurd (not-suc-le-zero h)
  set_from_bottom-up v (a ∷ A) B k h = go (ℕ_discrete k (length A)) (λ y. set_from_bottom-up v A B k y)
    where
      go : Dec (k ≡ length A) → (k < length A → set_from_bottom (A ++ B) (length B + k) v ≡ set_from_bottom A k v ++ B)
          → set_from_bottom ((a ∷ A) ++ B) (length B + k) v ≡ set_from_bottom (a ∷ A) k v ++ B
      go (yes e) ih =
          let e₁ : length B + k ≡ length (A ++ B) = simp length-append (omega arith) in
          rw (eqb-true (length B + k) (length (A ++ B)) e₁, eqb-true k (length A) e)
      go (no n) ih =
          let n₁ : length B + k ≢ length (A ++ B) = simp length-append (λ z. n (omega arith)) in
          rw (eqb-ne (length B + k) (length (A ++ B)) n₁, eqb-ne k (length A) n)
          (ap (λ (s : List W). a ∷ s) (ih (omega arith)))

  pub length-set_from_bottom : (A : List W) (k : ℕ) (v : W) → length (set_from_bottom A k v) ≡ length A
  length-set_from_bottom [] k v = refl
  length-set_from_bottom (a ∷ A) k v = go (eqb k (length A)) (length-set_from_bottom A k v)
    where
      go : (b : Bool) → length (set_from_bottom A k v) ≡ length A
          → length (cond b (v ∷ A) (a ∷ set_from_bottom A k v)) ≡ suc (length A)
      go true ih = refl
      go false ih = ap suc ih

  pub oldest-append : (n : ℕ) (A B : List W) → n ≡ length B → oldest n (A ++ B) ≡ B
  oldest-append n A B h =
      let e : length (A ++ B) - n ≡ length A = simp length-append (omega arith) in
      ap (λ (k : ℕ). drop k (A ++ B)) e ∙ drop-append_seam A B

  pub look_up-found : (d : W) (x k : ℕ) (own N : List ℕ) (V U : List W) → locate x own ≡ Some k → length V ≡ length own
      → (look_up d x (own ++ N) (V ++ U) ≡ from_bottom d V k) × (k < length V)
  look_up-found d x k [] N V U e l = absurd (no-some e)
  look_up-found d x k (n ∷ own) N [] U e l = absurd (omega arith)
  look_up-found d x k (n ∷ own) N (w ∷ V) U e l = go (eqb x n) e (λ z. look_up-found d x k own N V U z (omega arith))
    where
      go : (b : Bool) → cond b (Some (length own)) (locate x own) ≡ Some k
          → (locate x own ≡ Some k → (look_up d x (own ++ N) (V ++ U) ≡ from_bottom d V k) × (k < length V))
          → (cond b w (look_up d x (own ++ N) (V ++ U)) ≡ from_bottom d (w ∷ V) k) × (k < suc (length V))
      go true z ih =
          let y : length own ≡ k = some_inj z in
          let y₂ : k ≡ length V = omega arith in
          (rw (eqb-true k (length V) y₂), omega arith)
      go false z ih =
          let i = ih z in
          let y₂ : k ≢ length V = omega (arith, i.1) in
          (rw (eqb-ne k (length V) y₂) i.0, omega (arith, i.1))

  pub look_up-none : (d : W) (x : ℕ) (own N : List ℕ) (V U : List W) → locate x own ≡ None → length V ≡ length own
      → look_up d x (own ++ N) (V ++ U) ≡ look_up d x N U
  look_up-none d x [] N [] U e l = refl
  look_up-none d x [] N (w ∷ V) U e l = absurd (omega arith)
  look_up-none d x (n ∷ own) N [] U e l = absurd (omega arith)
  look_up-none d x (n ∷ own) N (w ∷ V) U e l = go (eqb x n) e (λ z. look_up-none d x own N V U z (omega arith))
    where
      go : (b : Bool) → cond b (Some (length own)) (locate x own) ≡ None
          → (locate x own ≡ None → look_up d x (own ++ N) (V ++ U) ≡ look_up d x N U)
          → cond b w (look_up d x (own ++ N) (V ++ U)) ≡ look_up d x N U
      go true z ih = absurd (no-some (sym z))
      go false z ih = ih z

  pub store_found : (v : W) (x k : ℕ) (own N : List ℕ) (V U : List W) → locate x own ≡ Some k → length V ≡ length own
      → (store x v (own ++ N) (V ++ U) ≡ set_from_bottom V k v ++ U) × (k < length V)
  store_found v x k [] N V U e l = absurd (no-some e)
  store_found v x k (n ∷ own) N [] U e l = absurd (omega arith)
  store_found v x k (n ∷ own) N (w ∷ V) U e l = go (eqb x n) e (λ z. store_found v x k own N V U z (omega arith))
    where
      go : (b : Bool) → cond b (Some (length own)) (locate x own) ≡ Some k
          → (locate x own ≡ Some k → (store x v (own ++ N) (V ++ U) ≡ set_from_bottom V k v ++ U) × (k < length V))
          → (cond b (v ∷ (V ++ U)) (w ∷ store x v (own ++ N) (V ++ U)) ≡ set_from_bottom (w ∷ V) k v ++ U)
          × (k < suc (length V))
      go true z ih =
          let y : length own ≡ k = some_inj z in
          let y₂ : k ≡ length V = omega arith in
          (rw (eqb-true k (length V) y₂), omega arith)
      go false z ih =
          let i = ih z in
          let y₂ : k ≢ length V = omega (arith, i.1) in
          (rw (eqb-ne k (length V) y₂) (ap (λ (s : List W). w ∷ s) i.0), omega (arith, i.1))

  pub store-none : (v : W) (x : ℕ) (own N : List ℕ) (V U : List W) → locate x own ≡ None → length V ≡ length own
      → store x v (own ++ N) (V ++ U) ≡ V ++ store x v N U
  store-none v x [] N [] U e l = refl
  store-none v x [] N (w ∷ V) U e l = absurd (omega arith)
  store-none v x (n ∷ own) N [] U e l = absurd (omega arith)
  store-none v x (n ∷ own) N (w ∷ V) U e l = go (eqb x n) e (λ z. store-none v x own N V U z (omega arith))
    where
      go : (b : Bool) → cond b (Some (length own)) (locate x own) ≡ None
          → (locate x own ≡ None → store x v (own ++ N) (V ++ U) ≡ V ++ store x v N U)
          → cond b (v ∷ (V ++ U)) (w ∷ store x v (own ++ N) (V ++ U)) ≡ (w ∷ V) ++ store x v N U
      go true z ih = absurd (no-some (sym z))
      go false z ih = ap (λ (s : List W). w ∷ s) (ih z)

pub locate-append : (x : ℕ) (A B : List ℕ) → locate x A ≡ None → locate x B ≡ None → locate x (A ++ B) ≡ None
locate-append x [] B e f = f
locate-append x (n ∷ A) B e f = go (eqb x n) e (λ z. locate-append x A B z f)
  where
    go : (b : Bool) → cond b (Some (length A)) (locate x A) ≡ None → (locate x A ≡ None → locate x (A ++ B) ≡ None)
        → cond b (Some (length (A ++ B))) (locate x (A ++ B)) ≡ None
    go true z ih = absurd (no-some (sym z))
    go false z ih = ih z

pub apart-append : (globals A B : List ℕ) → Apart globals A → Apart globals B → Apart globals (A ++ B)
apart-append globals A B f g x k e = locate-append x A B (f x k e) (g x k e)

pub bind_names-append : (ds : List VariableDeclaration) (own N : List ℕ)
    → bind_names ds (own ++ N) ≡ bind_names ds own ++ N
bind_names-append [] own N = refl
bind_names-append (declare a x v ∷ ds) own N = bind_names-append ds (x ∷ own) N

pub length-bind_names : (ds : List VariableDeclaration) (own : List ℕ)
    → length (bind_names ds own) ≡ length ds + length own
length-bind_names [] own = sym (zero-add (length own))
length-bind_names (declare a x v ∷ ds) own = omega (arith, length-bind_names ds (x ∷ own))

module _ {W : Type 0} (kind : Kind W) where
  pub bind_words-append : (ds : List VariableDeclaration) (V U : List W)
      → bind_words kind ds (V ++ U) ≡ bind_words kind ds V ++ U
  bind_words-append [] V U = refl
  bind_words-append (declare a x v ∷ ds) V U = bind_words-append ds (kind.literal v ∷ V) U

  pub length-bind_words : (ds : List VariableDeclaration) (V : List W)
      → length (bind_words kind ds V) ≡ length ds + length V
  length-bind_words [] V = sym (zero-add (length V))
  length-bind_words (declare a x v ∷ ds) V = omega (arith, length-bind_words ds (kind.literal v ∷ V))

pub only-true : {W : Type 0} (b : Bool) (o : LiveProgress W) → T b → only b o ≡ o
only-true true o t = refl
only-true false o t = elim t [ ]

pub inside-true : {W : Type 0} (i : ℕ) (s : List W) (o : LiveProgress W) → i < length s → inside i s o ≡ o
inside-true i s o h = only-true (ltb i (length s)) o (lt→ltb i (length s) h)

pub above-true : {W : Type 0} (n : ℕ) (s : List W) (o : LiveProgress W) → n ≤ length s → above n s o ≡ o
above-true n s o h = only-true (leb n (length s)) o (le→leb n (length s) h)
