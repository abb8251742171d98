-- What the outline knows of the records around a record.
use Rattle.std.specs.Prelude.{◌≢◌, ℕ, ◌-◌, List, length, slice_get, Some}

-- The innermost of the records around, the last of the list, wants another part.
abbrev pub IsWaiting : List ℕ → Type 0
IsWaiting wanted = slice_get wanted (length wanted - 1) ≢ Some 0
