-- What a rack's write answers, and what the bays then hold.
use Rattle.std.specs.Prelude.{ℕ, Bool, cond, ◌&&◌, List, length, Some, None, Ok, Err, Option, Result, nat_lt, slice_set}
use Rattle.racks.specs.declared.rack.BayFault.{BayFault}
use Rattle.racks.specs.declared.rack.BayFault.TheVariants.{NoSuchBay, CannotHold}

-- The answer by two tests: is there such a bay, which is asked first, and can it hold the word?
abbrev pub answer_of : Bool → Bool → Result (Unit {0}) BayFault
answer_of there held = cond there (cond held (Ok tt) (Err CannotHold)) (Err NoSuchBay)

-- A slot past the bays is "no such bay"; a word that no bay can hold is "cannot hold".
abbrev pub write_answer : {W : Type 0} → (W → Bool) → List W → ℕ → W → Result (Unit {0}) BayFault
write_answer holds bays slot word = answer_of (nat_lt slot (length bays)) (holds word)

-- The word replaces what its bay held. Where the write is refused, nothing changes.
abbrev pub written : {W : Type 0} → (W → Bool) → List W → ℕ → W → List W
written holds bays slot word = cond (nat_lt slot (length bays) && holds word) (slice_set bays slot word) bays

-- A copy of one bay to another writes the word that was read; where nothing was read there is no such bay.
abbrev pub copy_answer : {W : Type 0} → (W → Bool) → List W → ℕ → Option W → Result (Unit {0}) BayFault
copy_answer holds bays to None = Err NoSuchBay
copy_answer holds bays to (Some word) = write_answer holds bays to word

-- The bays after the copy; where nothing was read they stay as they are.
abbrev pub copied : {W : Type 0} → (W → Bool) → List W → ℕ → Option W → List W
copied holds bays to None = bays
copied holds bays to (Some word) = written holds bays to word
