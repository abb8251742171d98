-- What a refusal says: its number, and what it tells. And what a test answers that refuses where it does not hold.
use Rattle.std.specs.Prelude.{◌≡◌, ℕ, Bool, cond, Ok, Err, Result}
use Rattle.script.specs.declared.refusal.Refusal.{Refusal}
use Rattle.script.specs.declared.refusal.Refusal.TheVariants.{
  TableSize,
  UnexpectedKind,
  FieldOutOfBounds,
  EndsEarly,
  LeftOver,
  DeclaredTwice,
  Undeclared,
  ArgumentCount,
  FrameNeed,
  FuelOrDepth,
  TooFewWords,
  WrongState,
}

-- the number by which a refusal is known; a table of the wrong length is 4 whichever way it is wrong
abbrev pub number : Refusal → ℕ
number TableSize = 1
number (UnexpectedKind at) = 2
number (FieldOutOfBounds at) = 3
number (EndsEarly count) = 4
number (LeftOver at) = 4
number (DeclaredTwice at) = 5
number (Undeclared at) = 6
number (ArgumentCount at) = 7
number FrameNeed = 8
number FuelOrDepth = 9
number (TooFewWords wanted) = 10
number WrongState = 11

-- what a refusal tells: the record at fault, the record count of a table that ends early, the elements that are
-- wanted of a lent slice, or 0
abbrev pub tells : Refusal → ℕ
tells TableSize = 0
tells (UnexpectedKind at) = at
tells (FieldOutOfBounds at) = at
tells (EndsEarly count) = count
tells (LeftOver at) = at
tells (DeclaredTwice at) = at
tells (Undeclared at) = at
tells (ArgumentCount at) = at
tells FrameNeed = 0
tells FuelOrDepth = 0
tells (TooFewWords wanted) = wanted
tells WrongState = 0

-- the answer is a refusal with this number that tells this
abbrev pub RefusedWith : {A : Type 0} → Result A Refusal → ℕ → ℕ → Type 0
RefusedWith (Ok x) n told = ⊥
RefusedWith (Err e) n told = (number e ≡ n) × (tells e ≡ told)

-- a test that passes where it holds, and is else refused so
abbrev pub unless : Bool → Refusal → Result (Unit {0}) Refusal
unless holds e = cond holds (Ok tt) (Err e)
