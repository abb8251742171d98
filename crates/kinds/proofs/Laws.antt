-- Both number kinds meet the laws of literals.
use Rattle.std.proofs.Common.{◌+ℤ◌, ◌-ℤ◌, ◌∙◌, w32}
use lib.Ieee.{binary64, sub}
use Rattle.std.proofs.lemmas.Int.{int_wrap_fits}
use Rattle.kinds.specs.Laws.{LiteralLaws}
use Rattle.kinds.specs.Counter.{counter}
use Rattle.kinds.specs.Rail.{rail}
use Rattle.kinds.proofs.Literals.{literal-value, size_fits, negated-value}
use Rattle.kinds.proofs.RailSums.{add-whole, sum_is, difference-is}

pub counter-laws : LiteralLaws counter
counter-laws = record {
  sums = λ a b fa fb fits. int_wrap_fits w32 (a +ℤ b) fits;
  differences = λ a b fa fb fits. int_wrap_fits w32 (a -ℤ b) fits;
}

pub rail-laws : LiteralLaws rail
unfolding sub
rail-laws = record {
  sums = λ a b fa fb fits.
      add-whole binary64 _ _ _ _ _ _ (literal-value a (size_fits a fa)) (literal-value b (size_fits b fb)) ∙ sum_is a b;
  differences = λ a b fa fb fits.
      add-whole binary64 _ _ _ _ _ _
      (literal-value a (size_fits a fa)) (negated-value _ _ _ (literal-value b (size_fits b fb)))
      ∙ difference-is a b;
}
