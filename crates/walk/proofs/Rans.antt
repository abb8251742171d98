-- What a node has come to, from what its parts have come to.
use Rattle.std.proofs.Common.{◌≡◌, ℕ, ◌≤◌, ℤ, Ok, Err, Result, sym, ap, ◌∙◌, arith}
use Rattle.std.proofs.lemmas.Result.{err_from_is_err_and}
use Rattle.std.specs.Result.{IsErrAnd}
use Rattle.treerun.specs.TreeRun.{Outcome, value}
use Rattle.walk.specs.declared.state.Stop.{Stop}
use Rattle.walk.specs.Lent.{Lent, state, stopped, Ran, RanPart}

module _ {A B : Type 0} {means : B → A} {next : B → ℕ} {end : ℕ} where
  -- No value, after parts that had one: a `?` returns what it was given.
  pub refuses : {a b₀ : Lent} {q : Outcome ℤ A} {r : Result B Stop} (s : Stop) → IsErrAnd r (λ y. y ≡ s) →
      a.fuel ≤ b₀.fuel → b₀.bound ≤ a.bound → q ≡ stopped s (state a) → Ran q r means next end b₀ a
  refuses {a} {b₀} {q} {r} s e f h x =
      let y = err_from_is_err_and r e in
      let z : r ≡ Err s = y.1 ∙ ap Err y.2 in
      rw z record { runs = x; fuel = f; kept = h; ends = tt }

  -- A part that has no value: neither has the node.
  pub passes : {A' B' : Type 0} {p : Outcome ℤ A'} {means' : B' → A'} {next' : B' → ℕ} {end' : ℕ} {b a b₀ : Lent}
      {s : Stop} {q : Outcome ℤ A} {r : Result B Stop} → IsErrAnd r (λ y. y ≡ s) →
      b₀.bound ≤ b.bound → b.fuel ≤ b₀.fuel → Ran p (Err s) means' next' end' b a → q ≡ stopped s (state a) →
      Ran q r means next end b₀ a
  passes e h f k x = refuses _ e (omega (arith, k.fuel)) (omega (arith, k.kept)) x

  -- A node that comes to what its last part comes to.
  pub follows : {p q : Outcome ℤ A} {end' : ℕ} {b a b₀ : Lent} (r : Result B Stop) →
      b.bound ≡ b₀.bound → b.fuel ≤ b₀.fuel → end' ≡ end → Ran p r means next end' b a → q ≡ p →
      Ran q r means next end b₀ a
  follows (Ok v) c f e k x = record {
    runs = x ∙ k.runs;
    fuel = omega (arith, k.fuel);
    kept = k.kept
        ∙ c;
    ends = k.ends ∙ e;
  }
  follows (Err s) c f e k x =
      record {
        runs = x ∙ k.runs;
        fuel = omega (arith, k.fuel);
        kept = omega (arith, k.kept);
        ends = tt;
      }

-- A value.
pub gives : {b₀ a : Lent} {q : Outcome ℤ ℤ} {w' : ℤ} {n end : ℕ} (w : ℤ) → w' ≡ w → q ≡ value w (state a) →
    a.fuel ≤ b₀.fuel → a.bound ≡ b₀.bound → n ≡ end →
    RanPart q (Ok (record { word = w'; next = n })) end b₀ a
gives {b₀} {a} w e x f b h = record {
  runs = x
      ∙ ap (λ (z : ℤ). value z (state a)) (sym e);
  fuel = f;
  kept = b;
  ends = h;
}

pub recast : {p : Outcome ℤ ℤ} {e : ℕ} {b a : Lent} {s : Stop} (s' : Stop) → s ≡ s' → RanPart p (Err s) e b a →
    RanPart p (Err s') e b a
recast s' e h = rw e at h
