-- What a lender learns of its list from a rack's bays and loan.
use Rattle.std.proofs.Common.{◌≡◌, ℕ, Bool, List, ◌++◌, take, drop, Result, sym, ap, ◌∙◌, take-append-drop}
use Rattle.std.specs.List.{slice_get}
use Rattle.racks.specs.declared.rack.BayFault.{BayFault}
use Rattle.racks.specs.Loans.{lent}
use Rattle.racks.specs.Writes.{copy_answer, copied}

-- the rack kept the list that was lent
pub same-lender : {W : Type 0} (m n : ℕ) (after before : List W) → lent m after ≡ lent n before → n ≡ m
same-lender m n after before kept = sym (ap (λ loan. loan.lender) kept)

-- that list is the bays, and then what lay behind them
pub whole-list : {W : Type 0} (m n : ℕ) (after before bays : List W)
    → take 4096 after ≡ bays → lent m after ≡ lent n before → after ≡ bays ++ drop 4096 before
whole-list m n after before bays front kept =
    sym (take-append-drop 4096 after)
    ∙ ap (λ xs. xs ++ drop 4096 after) front
    ∙ ap (λ xs. bays ++ xs) (ap (λ loan. loan.rest) kept)

-- ---- a copy of one bay to another in the list `entry`, by a rack that had it as `before`

module _ {W : Type 0} (holds : W → Bool) (from to : ℕ) (before entry : List W) (lent-as : before ≡ entry) where
  -- the bays after the copy, and the answer, of a list
  abbrev bays-of : List W → List W
  bays-of list = copied holds (take 4096 list) to (slice_get (take 4096 list) from)

  abbrev answer-of : List W → Result (Unit {0}) BayFault
  answer-of list = copy_answer holds (take 4096 list) to (slice_get (take 4096 list) from)

  pub copied-list : (m n : ℕ) (after : List W) → take 4096 after ≡ bays-of before → lent m after ≡ lent n before
      → after ≡ bays-of entry ++ drop 4096 entry
  copied-list m n after front kept =
      whole-list m n after before (bays-of before) front kept ∙ ap (λ list. bays-of list ++ drop 4096 list) lent-as

  pub copied-answer : (r : Result (Unit {0}) BayFault) → r ≡ answer-of before → r ≡ answer-of entry
  copied-answer r was = was ∙ ap answer-of lent-as
