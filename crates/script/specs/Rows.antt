-- The table of kinds: what a record of each kind is, the bounds of its fields, and its parts. The bound of a field is the
-- largest value that it may have, or none where it may have any.
use Rattle.std.specs.Prelude.{ℕ, ◌+◌, Bool, true, false, ◌||◌, List, [], ◌∷◌, ◌++◌, replicate, ℤ, pos, negsuc, Some, None, Option, ◌==◌, nat_le, slice_index_or}
use Rattle.script.specs.declared.record.Record.{Record}
use Rattle.script.specs.declared.rows.Sort.{Sort}
use Rattle.script.specs.declared.rows.Sort.TheVariants.{
  Unknown,
  Expression,
  Statement,
  Variable,
  Function,
  Parameter,
  Program,
  Declaration,
}
use Rattle.script.specs.declared.rows.Operator.TheVariants.{Sum, Difference, Greater}
use Rattle.script.specs.declared.rows.NodeKind.{NodeKind}
use Rattle.script.specs.declared.rows.NodeKind.TheVariants as is
use Rattle.script.specs.declared.rows.Row.{Row}
use Rattle.script.specs.declared.rows.Parts.{Parts}
use Rattle.script.specs.declared.rows.Count.{Count}
use Rattle.script.specs.declared.rows.Count.TheVariants.{Fixed, FieldA, FieldV}

-- a field that holds a name, 0 to 255
abbrev pub name : Option ℕ
name = Some 255

-- a field without a meaning, which is 0
abbrev pub blank : Option ℕ
blank = Some 0

-- a field that holds any number
abbrev pub any : Option ℕ
any = None

-- so many parts of one sort
abbrev pub several : Count → Sort → Parts
several n s = record { count = n; sort = s }

-- no parts at all, of no sort that a record has
abbrev pub none : Parts
none = several (Fixed 0) Unknown

-- one part of a sort
abbrev pub one : Sort → Parts
one s = several (Fixed 1) s

-- two parts of a sort
abbrev pub two : Sort → Parts
two s = several (Fixed 2) s

-- a row: the node, its sort, the bounds of the fields a and v, and the parts, first ones first
abbrev pub row : NodeKind → Sort → Option ℕ → Option ℕ → Parts → Parts → Row
row k s a v p q = record { node = k; sort = s; a = a; v = v; first = p; second = q }

-- the row of a kind that no node has
abbrev pub unknown : Row
unknown = row is.Unknown Unknown blank blank none none

-- The rows of the kinds 0 to 31, in order.
abbrev pub rows : List Row
rows =
    unknown
    -- 1 number, 2 variable
    ∷ row is.Number Expression blank any none none
    ∷ row is.Variable Expression name blank none none
    -- 3 sum, 4 difference, 5 greater
    ∷ row (is.TwoPart Sum) Expression blank blank (two Expression) none
    ∷ row (is.TwoPart Difference) Expression blank blank (two Expression) none
    ∷ row (is.TwoPart Greater) Expression blank blank (two Expression) none
    -- 6 assignment, 7 call, 8 bay read, 9 bay write
    ∷ row is.Assignment Expression name blank (one Expression) none
    ∷ row is.Call Expression name (Some 15) (several FieldV Expression) none
    ∷ row is.BayRead Expression blank blank (one Expression) none
    ∷ row is.BayWrite Expression blank blank (two Expression) none
    -- 10 to 15
    ∷ unknown ∷ unknown ∷ unknown ∷ unknown ∷ unknown ∷ unknown
    -- 16 expression statement, 17 if, 18 while, 19 return, 20 block
    ∷ row is.ExpressionStatement Statement blank blank (one Expression) none
    ∷ row is.If Statement blank blank (one Expression) (two Statement)
    ∷ row is.While Statement blank blank (one Expression) (one Statement)
    ∷ row is.Return Statement blank blank (one Expression) none
    ∷ row is.Block Statement (Some 63) (Some 1023) (several FieldA Variable) (several FieldV Statement)
    -- 21 to 23
    ∷ unknown ∷ unknown ∷ unknown
    -- 24 variable declaration, 25 function, 26 parameter, 27 program
    ∷ row is.VariableDeclaration Variable name any none none
    ∷ row is.Function Function name (Some 15) (several FieldV Parameter) (one Statement)
    ∷ row is.Parameter Parameter name blank none none
    ∷ row is.Program Program (Some 128) blank (several FieldA Declaration) (one Statement)
    -- 28 to 31
    ∷ unknown ∷ unknown ∷ unknown ∷ unknown
    ∷ []

-- the row of a kind; a kind past the table is unknown
unfoldable pub row_of : ℕ → Row
row_of kind = slice_index_or rows kind unknown

-- which node a record of a kind is
abbrev pub node_of : ℕ → NodeKind
node_of kind = (row_of kind).node

-- the sorts numbered, to compare them
abbrev pub rank : Sort → ℕ
rank Unknown = 0
rank Expression = 1
rank Statement = 2
rank Variable = 3
rank Function = 4
rank Parameter = 5
rank Program = 6
rank Declaration = 7

-- May a record of the second sort stand where the first is wanted?
-- Where a declaration is wanted, a variable declaration or a function may; else the sorts are the same.
abbrev pub suits : Sort → Sort → Bool
suits Declaration s = rank Variable == rank s || rank Function == rank s
suits want s = rank want == rank s

-- is the value of a field within its bound: any, or 0 up to the largest
abbrev pub within : Option ℕ → ℤ → Bool
within None x = true
within (Some most) (pos n) = nat_le n most
within (Some most) (negsuc n) = false

-- a number, or 0 for a negative one
abbrev pub natural : ℤ → ℕ
natural (pos n) = n
natural (negsuc n) = 0

-- how many parts a count asks of a record
abbrev pub amount : Count → Record → ℕ
amount (Fixed n) r = n
amount FieldA r = r.a
amount FieldV r = natural r.v

-- the sorts that the parts of a record have to be, in order
abbrev pub wants : Row → Record → List Sort
wants row r =
    replicate (amount row.first.count r) row.first.sort
    ++ replicate (amount row.second.count r) row.second.sort

-- how many parts a record has by its row: its first ones and its second ones
abbrev pub part_count : Record → ℕ
part_count r = amount (row_of r.kind).first.count r + amount (row_of r.kind).second.count r
