-- What the code tests of a float to take it as a whole number is the definition's test.
use Rattle.std.proofs.Common.{◌≡◌, ℕ, ◌+◌, ◌*◌, ◌/◌, ◌%◌, ◌<◌, ◌≤◌, min, Bool, true, false, cond, ◌&&◌, eqb, leb, ◌⊎◌, ℤ, pos, Some, None, Option, sym, refl, ap, ◌∙◌, inl, inr, mul-pos, div-add-mod', zero-mul, mul-one, mul_right_comm, mul-div_cancel, arith}
use native.Mathlib.Nat.{zero-mod, zero-div, mul-mod_left, eq_of_mul-eq-mul_right}
use lib.Ieee.{Float, nan, inf, fin, binary64, up, down, eq, of_int, to_unsigned, level}
use lib.Ieee.Exact.{HasValue}
use lib.Ieee.Fits.{down_pos, up_pos}
use Rattle.std.proofs.lemmas.Bool.{cases_eq, cases_lt, le-leb, lt-leb, eq-eqb, ne_eqb}
use Rattle.std.specs.Bool.{then_some}
use Rattle.kinds.specs.Rail.{whole_up_to}
use Rattle.kinds.proofs.Literals.{literal-value}

and-false : (b : Bool) → (b && false) ≡ false
and-false true = refl
and-false false = refl

some-or-none : (test : Bool) (n : ℕ) → then_some test n ≡ cond test (Some n) None
some-or-none true n = refl
some-or-none false n = refl

-- the test that the code makes
abbrev tested : ℕ → Float → Option ℕ
tested last x =
    cond (eq (of_int binary64 (pos (to_unsigned 16 x))) x && leb (to_unsigned 16 x) last) (Some (to_unsigned 16 x)) None

whole-value : (n : ℕ) → n ≤ 65535 → HasValue (of_int binary64 (pos n)) false n 1
whole-value n h = literal-value (pos n) (omega arith)

eq-nan : (y : Float) → eq y nan ≡ false
unfolding eq
eq-nan nan = refl
eq-nan (inf s) = refl
eq-nan (fin s m e) = refl

eq-inf : (y : Float) (n : ℕ) (s : Bool) → HasValue y false n 1 → eq y (inf s) ≡ false
unfolding eq
eq-inf nan n s v = absurd v
eq-inf (inf t) n s v = absurd v
eq-inf (fin t k g) n s v = refl

-- the whole number n against a finite value with the sign plus
eq-whole : (y : Float) (n m : ℕ) (e : ℤ) → HasValue y false n 1 → eq y (fin false m e) ≡ eqb (n * down e) (m * up e)
unfolding eq
eq-whole nan n m e v = absurd v
eq-whole (inf t) n m e v = absurd v
eq-whole (fin t k g) n m e v =
    let scaled : k * up g * down e ≡ n * down e * down g =
    ap (λ (x : ℕ). x * down e) (sym (mul-one (k * up g)) ∙ v.1) ∙ mul_right_comm n (down g) (down e) in
    ap (λ (z : Bool). level z (k * up g * down e) false (m * up e * down g)) v.0
    ∙ ap (λ (z : ℕ). level false z false (m * up e * down g)) scaled
    ∙ go (cases_eq (n * down e) (m * up e))
  where
    go : (n * down e ≡ m * up e) ⊎ (n * down e ≡ m * up e → ⊥)
        → level false (n * down e * down g) false (m * up e * down g) ≡ eqb (n * down e) (m * up e)
    go (inl h) = rw (eq-eqb _ _ (ap (λ (x : ℕ). x * down g) h), eq-eqb _ _ h)
    go (inr h) = rw (ne_eqb _ _ (λ k. h (eq_of_mul-eq-mul_right (down g) (down_pos g) _ _ k)), ne_eqb _ _ h)

-- zero against a finite value with the sign minus
eq-minus : (y : Float) (m : ℕ) (e : ℤ) → HasValue y false 0 1 → eq y (fin true m e) ≡ eqb m 0
unfolding eq
eq-minus nan m e v = absurd v
eq-minus (inf t) m e v = absurd v
eq-minus (fin t k g) m e v =
    let none : k * up g * down e ≡ 0 =
    ap (λ (x : ℕ). x * down e) (sym (mul-one (k * up g)) ∙ v.1 ∙ zero-mul (down g)) ∙ zero-mul (down e) in
    ap (λ (z : Bool). level z (k * up g * down e) true (m * up e * down g)) v.0
    ∙ ap (λ (z : ℕ). level false z true (m * up e * down g)) none
    ∙ go (cases_eq m 0)
  where
    go : (m ≡ 0) ⊎ (m ≡ 0 → ⊥) → level false 0 true (m * up e * down g) ≡ eqb m 0
    go (inl h) = rw (h, zero-mul (up e), zero-mul (down g))
    go (inr h) =
        let above : 0 < m * up e * down g = mul-pos (mul-pos (omega arith) (up_pos e)) (down_pos g) in
        rw (ne_eqb 0 (m * up e * down g) (λ k. omega arith), ne_eqb m 0 h)

-- a size v / d: the code cuts it to 16 bits and compares back, the definition divides
abbrev SizeTests : ℕ → ℕ → ℕ → Type 0
SizeTests last v d =
    cond (eqb (min (v / d) 65535 * d) v && leb (min (v / d) 65535) last) (Some (min (v / d) 65535)) None
    ≡ cond (eqb (v % d) 0 && leb (v / d) last && true) (Some (v / d)) None

size-tests : (last v d : ℕ) → last < 65535 → 0 < d → SizeTests last v d
size-tests last v d h pos-d = go (cases_lt last (v / d))
  where
    parts : v / d * d + v % d ≡ v
    parts = div-add-mod' v d

    go : (last < v / d) ⊎ (v / d ≤ last) → SizeTests last v d
    go (inl l) =
        let large : leb (v / d) last ≡ false = lt-leb (v / d) last l in
        let cut : leb (min (v / d) 65535) last ≡ false = lt-leb (min (v / d) 65535) last (omega arith) in
        simp (large, cut, and-false)
    go (inr l) =
        let uncut : min (v / d) 65535 ≡ v / d = omega arith in
        let small : leb (v / d) last ≡ true = le-leb (v / d) last l in
        at (cases_eq (v % d) 0) uncut small
      where
        at : (v % d ≡ 0) ⊎ (v % d ≡ 0 → ⊥) → min (v / d) 65535 ≡ v / d → leb (v / d) last ≡ true → SizeTests last v d
        at (inl z) uncut small =
            let back : eqb (v / d * d) v ≡ true = eq-eqb (v / d * d) v (omega arith) in
            let whole : eqb (v % d) 0 ≡ true = eq-eqb (v % d) 0 z in
            simp (uncut, back, whole, small)
        at (inr z) uncut small =
            let back : eqb (v / d * d) v ≡ false = ne_eqb (v / d * d) v (λ w. z (omega arith)) in
            let whole : eqb (v % d) 0 ≡ false = ne_eqb (v % d) 0 z in
            simp (uncut, back, whole, small)

tested-is-whole : (last : ℕ) → last < 65535 → (x : Float) → tested last x ≡ whole_up_to last x
unfolding to_unsigned
tested-is-whole last h nan = rw eq-nan
tested-is-whole last h (inf true) = rw (eq-inf (of_int binary64 (pos 0)) 0 true (whole-value 0 (omega arith)))
tested-is-whole last h (inf false) = rw (eq-inf (of_int binary64 (pos 65535)) 65535 false (whole-value 65535 (omega arith)))
tested-is-whole last h (fin true m e) =
    rw (eq-minus (of_int binary64 (pos 0)) m e (whole-value 0 (omega arith))) (go (cases_eq m 0))
  where
    go : (m ≡ 0) ⊎ (m ≡ 0 → ⊥) → cond (eqb m 0 && leb 0 last) (Some 0) None ≡ whole_up_to last (fin true m e)
    go (inl h) = rw (h, zero-mul (up e), zero-mod (down e), zero-div (down e), le-leb 0 last (omega arith))
    go (inr h) = simp (ne_eqb m 0 h, and-false)
tested-is-whole last h (fin false m e) =
    let n = min (m * up e / down e) 65535 in
    rw (eq-whole (of_int binary64 (pos n)) n m e (whole-value n (omega arith)))
    (size-tests last (m * up e) (down e) h (down_pos e))

-- by the code, which has n for the whole part of x, y for n as a float, and `test` for what its two tests give
pub whole-tested : (x y : Float) (n last : ℕ) (test : Bool) → last < 65535 → n ≡ to_unsigned 16 x
    → y ≡ of_int binary64 (pos n) → test ≡ (eq y x && leb n last) → then_some test n ≡ whole_up_to last x
whole-tested x y n last test h a b e = rw (← tested-is-whole last h x, e, b, a) (some-or-none _ _)

-- what has the whole value n, up to `last`, is that whole number
whole-of-value : (x : Float) (n last : ℕ) → n ≤ last → HasValue x false n 1 → whole_up_to last x ≡ Some n
whole-of-value nan n last l v = absurd v
whole-of-value (inf t) n last l v = absurd v
whole-of-value (fin t m e) n last l v =
    let size : m * up e ≡ n * down e = sym (mul-one (m * up e)) ∙ v.1 in
    let small : leb n last ≡ true = le-leb n last l in
    rw (size, v.0, mul-mod_left n (down e), mul-div_cancel n (down_pos e)) (simp small)

pub literal-slot : (n : ℕ) → n ≤ 4095 → whole_up_to 4095 (of_int binary64 (pos n)) ≡ Some n
literal-slot n l = whole-of-value (of_int binary64 (pos n)) n 4095 l (whole-value n (omega arith))
