-- Floats with whole values add up as the whole numbers do.
use Rattle.std.proofs.Common.{◌≡◌, ℕ, zero, suc, ◌+◌, ◌-◌, ◌*◌, ◌<◌, ◌≤◌, Bool, true, false, not, ltb, ◌⊎◌, ℤ, pos, negsuc, ◌+ℤ◌, ◌-ℤ◌, sym, refl, ap, ◌∙◌, inl, inr, mul-le-mul_right, mul_assoc, mul_comm, add-mul, mul-lt-mul_of_pos_right, mul-pos, mul-one, arith}
use native.Mathlib.Nat.{mul-sub}
use lib.IntN.{sub_ℕ}
use lib.Ieee.{Float, nan, inf, fin, Format, binary64, up, down, round, sum, add, of_int}
use lib.Ieee.Exact.{HasValue}
use lib.Ieee.Fits.{down_pos}
use lib.Ieee.Scale.{round_same}
use Rattle.std.proofs.lemmas.Bool.{cases_lt, lt-ltb, le-ltb}
use Rattle.kinds.proofs.Literals.{sign_of, size_of}

-- ---- a sum of fractions of one denominator k is the sum of the numerators

ltb-scale : (a b k : ℕ) → 0 < k → ltb (a * k) (b * k) ≡ ltb a b
ltb-scale a b k h = go (cases_lt a b)
  where
    go : (a < b) ⊎ (b ≤ a) → ltb (a * k) (b * k) ≡ ltb a b
    go (inl l) = lt-ltb (a * k) (b * k) (mul-lt-mul_of_pos_right l h) ∙ sym (lt-ltb a b l)
    go (inr l) = le-ltb (a * k) (b * k) (mul-le-mul_right k l) ∙ sym (le-ltb a b l)

sub-scale : (a b k : ℕ) → a * k - b * k ≡ (a - b) * k
sub-scale a b k = omega (arith, mul-sub k a b, mul_comm a k, mul_comm b k, mul_comm (a - b) k)

sum-scale : (f : Format) (s : Bool) (a : ℕ) (t : Bool) (b k : ℕ) → 0 < k → sum f s (a * k) t (b * k) k ≡ sum f s a t b 1
unfolding sum
sum-scale f s a t b k h =
    let one : 0 < 1 = omega arith in
    let sums : round f s (a * k + b * k) k ≡ round f s (a + b) 1 =
    round_same f s (a * k + b * k) k (a + b) 1 h one (mul-one (a * k + b * k) ∙ sym (add-mul a b k)) in
    let second-larger : round f t (b * k - a * k) k ≡ round f t (b - a) 1 =
    round_same f t (b * k - a * k) k (b - a) 1 h one (mul-one (b * k - a * k) ∙ sub-scale b a k) in
    let first-larger : (u : Bool) → round f u (a * k - b * k) k ≡ round f u (a - b) 1 =
    λ u. round_same f u (a * k - b * k) k (a - b) 1 h one (mul-one (a * k - b * k) ∙ sub-scale a b k) in
    rw (sums, second-larger, first-larger, ltb-scale a b k h, ltb-scale b a k h)

-- what has the whole values ±a and ±b adds up as they do
pub add-whole : (f : Format) (x y : Float) (s t : Bool) (a b : ℕ)
    → HasValue x s a 1 → HasValue y t b 1 → add f x y ≡ sum f s a t b 1
unfolding add
add-whole f nan y s t a b v w = absurd v
add-whole f (inf u) y s t a b v w = absurd v
add-whole f (fin u m e) nan s t a b v w = absurd w
add-whole f (fin u m e) (inf r) s t a b v w = absurd w
add-whole f (fin u m e) (fin r n d) s t a b v w =
    let k = down e * down d in
    let first : m * up e * down d ≡ a * k =
    ap (λ (x : ℕ). x * down d) (sym (mul-one (m * up e)) ∙ v.1) ∙ mul_assoc a (down e) (down d) in
    let second : n * up d * down e ≡ b * k =
    ap (λ (x : ℕ). x * down e) (sym (mul-one (n * up d)) ∙ w.1)
    ∙ mul_assoc b (down d) (down e)
    ∙ ap (λ (x : ℕ). b * x) (mul_comm (down d) (down e)) in
    ap (λ (z : ℕ). sum f u z r (n * up d * down e) k) first
    ∙ ap (λ (z : ℕ). sum f u (a * k) r z k) second
    ∙ ap (λ (z : Bool). sum f z (a * k) r (b * k) k) v.0
    ∙ ap (λ (z : Bool). sum f s (a * k) z (b * k) k) w.0
    ∙ sum-scale f s a t b k (mul-pos (down_pos e) (down_pos d))

-- ---- the sum of two signed sizes is the literal of the sum

plus-minus : (a b : ℕ) → sum binary64 false a true b 1 ≡ of_int binary64 (sub_ℕ a b)
unfolding sum of_int
plus-minus a b = go (cases_lt a b)
  where
    go : (a < b) ⊎ (b ≤ a) → sum binary64 false a true b 1 ≡ of_int binary64 (sub_ℕ a b)
    go (inl l) =
        let below : ltb a b ≡ true = lt-ltb a b l in
        let left : b - a ≡ suc (b - suc a) = omega arith in
        rw (below, left)
    go (inr l) = let above : ltb a b ≡ false = le-ltb a b l in rw above

minus_plus : (a b : ℕ) → sum binary64 true a false b 1 ≡ of_int binary64 (sub_ℕ b a)
unfolding sum of_int
minus_plus a b = go (cases_lt a b)
  where
    go : (a < b) ⊎ (b ≤ a) → sum binary64 true a false b 1 ≡ of_int binary64 (sub_ℕ b a)
    go (inl l) =
        let below : ltb a b ≡ true = lt-ltb a b l in
        let above : ltb b a ≡ false = le-ltb b a (omega arith) in
        rw (below, above)
    go (inr l) = at (cases_lt b a)
      where
        at : (b < a) ⊎ (a ≤ b) → sum binary64 true a false b 1 ≡ of_int binary64 (sub_ℕ b a)
        at (inl k) =
            let above : ltb a b ≡ false = le-ltb a b l in
            let below : ltb b a ≡ true = lt-ltb b a k in
            let left : a - b ≡ suc (a - suc b) = omega arith in
            rw (above, below, left)
        at (inr k) =
            let above : ltb a b ≡ false = le-ltb a b l in
            let below : ltb b a ≡ false = le-ltb b a k in
            let left : a - b ≡ b - a = omega arith in
            rw (above, below, left)

pub sum_is : (a b : ℤ) → sum binary64 (sign_of a) (size_of a) (sign_of b) (size_of b) 1 ≡ of_int binary64 (a +ℤ b)
unfolding sum of_int
sum_is (pos a) (pos b) = refl
sum_is (pos a) (negsuc b) = plus-minus a (suc b)
sum_is (negsuc a) (pos b) = minus_plus (suc a) b
sum_is (negsuc a) (negsuc b) = let size : suc a + suc b ≡ suc (suc (a + b)) = omega arith in rw size

pub difference-is : (a b : ℤ)
    → sum binary64 (sign_of a) (size_of a) (not (sign_of b)) (size_of b) 1 ≡ of_int binary64 (a -ℤ b)
unfolding sum of_int
difference-is (pos a) (pos zero) =
    let above : ltb a 0 ≡ false = le-ltb a 0 (omega arith) in
    let left : a - 0 ≡ a + 0 = omega arith in
    let same : sub_ℕ a 0 ≡ pos (a + 0) = rw (above, left) in
    plus-minus a 0 ∙ ap (λ (z : ℤ). of_int binary64 z) same
difference-is (pos a) (pos (suc b)) = plus-minus a (suc b)
difference-is (pos a) (negsuc b) = refl
difference-is (negsuc a) (pos zero) =
    let size : suc a + 0 ≡ suc a = omega arith in
    let below : ltb 0 (suc a) ≡ true = lt-ltb 0 (suc a) (omega arith) in
    let left : suc a - suc 0 ≡ a = omega arith in
    rw (size, below, left)
difference-is (negsuc a) (pos (suc b)) = let size : suc a + suc b ≡ suc (suc (a + b)) = omega arith in rw size
difference-is (negsuc a) (negsuc b) = minus_plus (suc a) (suc b)
