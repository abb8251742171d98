-- How much code a program has.
use Rattle.std.specs.Prelude.{◌*◌, ◌≤◌, length}
use Rattle.syntax.specs.Syntax.{Program}
use Rattle.syntax.specs.Listing.{listing}
use Rattle.code.specs.Scheme.{program_code}

-- The code of a program has at most four instructions for each record of the table that lists it.
abbrev pub AtMostFourARecord : Type 0
AtMostFourARecord = (p : Program) → length (program_code p) ≤ 4 * length (listing p)
