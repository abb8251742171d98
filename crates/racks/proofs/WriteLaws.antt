-- The laws of a rack's write.
use Rattle.std.proofs.Common.{◌≡◌, ℕ, zero, suc, ◌<◌, ◌≤◌, Bool, true, false, cond, ◌&&◌, ltb, List, [], ◌∷◌, length, set, Some, Ok, Err, refl, ap, arith, length-set}
use Rattle.std.specs.List.{slice_get}
use Rattle.std.proofs.lemmas.Bool.{lt-ltb, le-ltb, ltb-true}
use Rattle.racks.specs.declared.rack.BayFault.{BayFault}
use Rattle.racks.specs.declared.rack.BayFault.TheVariants.{NoSuchBay, CannotHold}
use Rattle.racks.specs.Writes.{answer_of, write_answer, written}
use Rattle.racks.specs.WriteLaws.{WriteLaws}

slice_get-set_same : {W : Type 0} (xs : List W) (i : ℕ) (w : W) → i < length xs → slice_get (set xs i w) i ≡ Some w
slice_get-set_same [] i w within = absurd (omega arith)
slice_get-set_same (x ∷ xs) zero w within = refl
slice_get-set_same (x ∷ xs) (suc i) w within = slice_get-set_same xs i w (omega arith)

slice_get-set_other : {W : Type 0} (xs : List W) (i : ℕ) (w : W) (j : ℕ) → (j ≡ i → ⊥) → slice_get (set xs i w) j ≡ slice_get xs j
slice_get-set_other [] i w j apart = refl
slice_get-set_other (x ∷ xs) zero w zero apart = absurd (apart refl)
slice_get-set_other (x ∷ xs) zero w (suc j) apart = refl
slice_get-set_other (x ∷ xs) (suc i) w zero apart = refl
slice_get-set_other (x ∷ xs) (suc i) w (suc j) apart = slice_get-set_other xs i w j (λ e. apart (ap suc e))

-- ---- by the two tests of a write: is there such a bay, and can it hold the word

kept : {A : Type 0} (within held : Bool) (fault : BayFault) (new old : A)
    → answer_of within held ≡ Err fault → cond (within && held) new old ≡ old
kept true true fault new old refused = absurd cc
kept true false fault new old refused = refl
kept false held fault new old refused = refl

both : (within held : Bool) → answer_of within held ≡ Ok tt → (within ≡ true) × (held ≡ true)
both true true took = (refl, refl)
both true false took = absurd cc
both false held took = absurd cc

either : {A B : Type 0} (f : A → B) (test : Bool) (new old : A) → f new ≡ f old → f (cond test new old) ≡ f old
either f true new old same = same
either f false new old same = refl

module _ {W : Type 0} (holds : W → Bool) (bays : List W) where
  no_such_bay : (slot : ℕ) (word : W) → length bays ≤ slot → write_answer holds bays slot word ≡ Err NoSuchBay
  no_such_bay slot word past = let outside : ltb slot (length bays) ≡ false = le-ltb slot (length bays) past in rw outside

  cannot_hold : (slot : ℕ) (word : W) → slot < length bays → holds word ≡ false
      → write_answer holds bays slot word ≡ Err CannotHold
  cannot_hold slot word below held =
      let within : ltb slot (length bays) ≡ true = lt-ltb slot (length bays) below in rw (within, held)

  taken : (slot : ℕ) (word : W) → slot < length bays → holds word ≡ true → write_answer holds bays slot word ≡ Ok tt
  taken slot word below held =
      let within : ltb slot (length bays) ≡ true = lt-ltb slot (length bays) below in rw (within, held)

  reads_back : (slot : ℕ) (word : W) → write_answer holds bays slot word ≡ Ok tt
      → slice_get (written holds bays slot word) slot ≡ Some word
  reads_back slot word took =
      let tests = both (ltb slot (length bays)) (holds word) took in
      let within : ltb slot (length bays) ≡ true = tests.0 in
      let held : holds word ≡ true = tests.1 in
      rw (within, held) (slice_get-set_same bays slot word (ltb-true slot (length bays) within))

  pub write-laws : WriteLaws holds bays
  write-laws = record {
    no_such_bay = no_such_bay;
    cannot_hold = cannot_hold;
    taken = taken;
    refused_keeps = λ slot word fault.
        kept (ltb slot (length bays)) (holds word) fault (set bays slot word) bays;
    reads_back = reads_back;
    others_stay = λ slot word other apart.
        either (λ xs. slice_get xs other) (ltb slot (length bays) && holds word) (set bays slot word) bays
        (slice_get-set_other bays slot word other apart);
    same_length = λ slot word.
        either length (ltb slot (length bays) && holds word) (set bays slot word) bays (length-set bays slot word);
  }
