-- What the live words are after a push, and after a cut back to where they were.
use Rattle.std.proofs.Common.{◌≡◌, ℕ, ◌+◌, ◌<◌, ◌≤◌, [], ◌∷◌, ◌++◌, length, take, set, sym, refl, ap, ◌∙◌, length-set, lt-ltb}
use Rattle.std.proofs.lemmas.List.{take_more_set, take-take, length-take-le}
use Rattle.stack.specs.declared.Stack.{Stack}
use Rattle.stack.specs.Store.{raised, contents, capacity}

pub raised-once : (height room : ℕ) → height < room → raised height room ≡ height + 1
raised-once height room h = rw (lt-ltb height room h) refl

module _ {T : Type 0} (s : Stack T) where
  pub length-contents : s.height ≤ capacity s → length (contents s) ≡ s.height
  length-contents h = length-take-le s.height s.words.now h

  -- A push where there is room.
  module _ (t : Stack T) (x : T) (room : s.height < capacity s)
      (words : t.words.now ≡ set s.words.now s.height x)
      (height : t.height ≡ raised s.height (capacity s)) where
    pub height-pushed : t.height ≡ s.height + 1
    height-pushed = height ∙ raised-once s.height (capacity s) room

    pub contents-pushed : contents t ≡ contents s ++ x ∷ []
    contents-pushed =
        ap (λ (n : ℕ). take n t.words.now) height-pushed
        ∙ (ap (take (s.height + 1)) words ∙ take_more_set s.words.now s.height x room)

    pub capacity-pushed : capacity t ≡ capacity s
    capacity-pushed = ap length words ∙ length-set s.words.now s.height x

  -- A cut at or below the height.
  pub contents-cut : (t : Stack T) (k : ℕ) → k ≤ s.height → t.words.now ≡ s.words.now → t.height ≡ k →
      contents t ≡ take k (contents s)
  contents-cut t k h words height =
      ap (λ (n : ℕ). take n t.words.now) height
      ∙ (ap (take k) words ∙ sym (take-take k s.height s.words.now h))
