-- Literals written into a list of words, one after another.
use Rattle.std.proofs.Common.{◌≡◌, ℕ, zero, suc, ◌<◌, ◌≤◌, List, [], ◌∷◌, ◌++◌, map, length, get_or, take, drop, set, ℤ, refl, ap, arith}

-- One more.
pub one_more :
    {W : Type 0} (literal : ℤ → W) (numbers : List ℤ) (words : List W) (i : ℕ) (d : ℤ) → i < length numbers
    → length numbers ≤ length words
    → set (map literal (take i numbers) ++ drop i words) i (literal (get_or numbers i d))
    ≡ map literal (take (suc i) numbers) ++ drop (suc i) words
one_more literal [] words i d l m = absurd (omega arith)
one_more literal (n ∷ numbers) [] i d l m = absurd (omega arith)
one_more literal (n ∷ numbers) (w ∷ words) zero d l m = refl
one_more literal (n ∷ numbers) (w ∷ words) (suc i) d l m =
    ap (λ (ws : List _). literal n ∷ ws) (one_more literal numbers words i d (omega arith) (omega arith))
