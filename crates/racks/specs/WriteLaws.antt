-- What a write means to whoever reads the bays afterwards.
use Rattle.std.specs.Prelude.{◌≡◌, ℕ, ◌<◌, ◌≤◌, Bool, true, false, List, length, Some, Ok, Err, ◌≢◌}
use Rattle.std.specs.List.{slice_get}
use Rattle.racks.specs.declared.rack.BayFault.{BayFault}
use Rattle.racks.specs.declared.rack.BayFault.TheVariants.{NoSuchBay, CannotHold}
use Rattle.racks.specs.Writes.{write_answer, written}

-- A slot past the bays is "no such bay", whatever the word. Of the other slots, a word that no bay can hold is
-- "cannot hold", and any other word is taken.
-- A refusal changes no bay. A word that was taken is read back from its slot. No other slot's reading changes, and
-- there are as many bays as before.
pub record WriteLaws {W : Type 0} (holds : W → Bool) (bays : List W) : Type 0 where
  pub no_such_bay : (slot : ℕ) (word : W) → length bays ≤ slot → write_answer holds bays slot word ≡ Err NoSuchBay
  pub cannot_hold : (slot : ℕ) (word : W) → slot < length bays → holds word ≡ false
      → write_answer holds bays slot word ≡ Err CannotHold
  pub taken : (slot : ℕ) (word : W) → slot < length bays → holds word ≡ true → write_answer holds bays slot word ≡ Ok tt
  pub refused_keeps : (slot : ℕ) (word : W) (fault : BayFault) → write_answer holds bays slot word ≡ Err fault
      → written holds bays slot word ≡ bays
  pub reads_back : (slot : ℕ) (word : W) → write_answer holds bays slot word ≡ Ok tt
      → slice_get (written holds bays slot word) slot ≡ Some word
  pub others_stay : (slot : ℕ) (word : W) (other : ℕ) → (other ≢ slot)
      → slice_get (written holds bays slot word) other ≡ slice_get bays other
  pub same_length : (slot : ℕ) (word : W) → length (written holds bays slot word) ≡ length bays
