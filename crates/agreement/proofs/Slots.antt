-- The newest binding of a name and the slot that its code names are the same word.
use Rattle.std.proofs.Common.{◌≡◌, ℕ, ◌+◌, ◌<◌, List, [], ◌++◌, length, Some, None, sym, ap, ◌∙◌, append-nil, arith, length-append}
use Rattle.syntax.specs.Syntax.{locate}
use Rattle.treerun.specs.TreeRun.{look_up, store}
use Rattle.agreement.proofs.Scene.{Scene}
use Rattle.agreement.proofs.Live.{from_bottom, set_from_bottom, zw}
use Rattle.agreement.proofs.Lists.{from_bottom-skip, from_bottom-up, set_from_bottom-skip, set_from_bottom-up, look_up-found}
use Rattle.agreement.proofs.Lists.{look_up-none, store_found, store-none}
use Rattle.agreement.proofs.Relation.{Working, Surroundings, Fits}

-- For a name x whose slot is k, with the words T above the frame's bindings.
module _ {W : Type 0} (S : Scene W) (X : Surroundings W) (own : List ℕ) (c : Working W) (o : Fits S X own c) (x k : ℕ)
    (T : List W) where
  abbrev d : W
  d = zw S

  -- The words under the frame, and the stack.
  abbrev under : List W
  under = X.below ++ c.globals

  abbrev stack : List W
  stack = T ++ (c.locals ++ under)

  -- The bindings of the tree run.
  abbrev names : List ℕ
  names = c.names ++ (X.caller_names ++ c.global_names)

  abbrev words : List W
  words = c.locals ++ (X.caller_words ++ c.globals)

  names-are : names ≡ own ++ (X.caller_names ++ S.globals)
  names-are = λ t. o.names t ++ (X.caller_names ++ o.global_names t)

  frame-start : length under ≡ X.base
  frame-start = simp length-append (omega arith)

  pub local-look : locate x own ≡ Some k → from_bottom d stack (X.base + k) ≡ look_up d x names words
  local-look e =
      let f = look_up-found d x k own (X.caller_names ++ S.globals) c.locals (X.caller_words ++ c.globals) e
      o.locals in
      let h : X.base + k < length (c.locals ++ under) =
      simp length-append (omega (arith, f.1, o.base, o.globals)) in
      from_bottom-skip d T (c.locals ++ under) (X.base + k) h
      ∙ ap (λ (z : ℕ). from_bottom d (c.locals ++ under) (z + k)) (sym frame-start)
      ∙ from_bottom-up d c.locals under k f.1
      ∙ sym f.0
      ∙ ap (λ (z : List ℕ). look_up d x z words) (sym names-are)

  pub global-look :
      locate x own ≡ None → locate x S.globals ≡ Some k → from_bottom d stack k ≡ look_up d x names words
  global-look e e₂ =
      let f = look_up-found d x k S.globals [] c.globals [] e₂ o.globals in
      let f₀ : look_up d x S.globals c.globals ≡ from_bottom d c.globals k = simp append-nil at f.0 in
      let h : k < length under = simp length-append (omega (arith, f.1)) in
      let h₂ : k < length (c.locals ++ under) = simp length-append (omega (arith, f.1)) in
      from_bottom-skip d T (c.locals ++ under) k h₂
      ∙ from_bottom-skip d c.locals under k h
      ∙ from_bottom-skip d X.below c.globals k f.1
      ∙ sym f₀
      ∙ sym
      (look_up-none d x X.caller_names S.globals X.caller_words c.globals (o.callers_apart x k e₂)
      o.callers)
      ∙ sym
      (look_up-none d x own (X.caller_names ++ S.globals) c.locals (X.caller_words ++ c.globals) e o.locals)
      ∙ ap (λ (z : List ℕ). look_up d x z words) (sym names-are)

  pub local-in : locate x own ≡ Some k → X.base + k < length stack
  local-in e =
      let f = look_up-found d x k own (X.caller_names ++ S.globals) c.locals (X.caller_words ++ c.globals) e
      o.locals in
      simp length-append (omega (arith, f.1, o.base, o.globals))

  pub global-in : locate x S.globals ≡ Some k → k < length stack
  global-in e =
      let f = look_up-found d x k S.globals [] c.globals [] e o.globals in
      simp length-append (omega (arith, f.1))

  pub local-put :
      (w : W) → locate x own ≡ Some k
      → (set_from_bottom stack (X.base + k) w ≡ T ++ (set_from_bottom c.locals k w ++ under))
      × (store x w names words ≡ set_from_bottom c.locals k w ++ (X.caller_words ++ c.globals))
  local-put w e =
      let f = store_found w x k own (X.caller_names ++ S.globals) c.locals (X.caller_words ++ c.globals) e
      o.locals in
      let h : X.base + k < length (c.locals ++ under) =
      simp length-append (omega (arith, f.1, o.base, o.globals)) in (
        set_from_bottom-skip w T (c.locals ++ under) (X.base + k) h
            ∙ ap (λ (z : ℕ). T ++ set_from_bottom (c.locals ++ under) (z + k) w) (sym frame-start)
            ∙ ap (λ (z : List W). T ++ z) (set_from_bottom-up w c.locals under k f.1),
        ap (λ (z : List ℕ). store x w z words) names-are ∙ f.0,
      )

  pub global-put :
      (w : W) → locate x own ≡ None → locate x S.globals ≡ Some k
      → (set_from_bottom stack k w ≡ T ++ (c.locals ++ (X.below ++ set_from_bottom c.globals k w)))
      × (store x w names words ≡ c.locals ++ (X.caller_words ++ set_from_bottom c.globals k w))
  global-put w e e₂ =
      let f = store_found w x k S.globals [] c.globals [] e₂ o.globals in
      let f₀ : store x w S.globals c.globals ≡ set_from_bottom c.globals k w = simp append-nil at f.0 in
      let h : k < length under = simp length-append (omega (arith, f.1)) in
      let h₂ : k < length (c.locals ++ under) = simp length-append (omega (arith, f.1)) in (
        set_from_bottom-skip w T (c.locals ++ under) k h₂
            ∙ ap (λ (z : List W). T ++ z) (set_from_bottom-skip w c.locals under k h)
            ∙ ap (λ (z : List W). T ++ (c.locals ++ z)) (set_from_bottom-skip w X.below c.globals k f.1),
        ap (λ (z : List ℕ). store x w z words) names-are
            ∙ store-none w x own (X.caller_names ++ S.globals) c.locals (X.caller_words ++ c.globals) e o.locals
            ∙ ap (λ (z : List W). c.locals ++ z)
            (store-none w x X.caller_names S.globals X.caller_words c.globals (o.callers_apart x k e₂)
            o.callers)
            ∙ ap (λ (z : List W). c.locals ++ (X.caller_words ++ z)) f₀,
      )
