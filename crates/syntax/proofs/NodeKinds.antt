-- The row of each kind of record, and the kinds that may stand where a sort is wanted.
use Rattle.std.proofs.Common.{◌≡◌, ℕ, zero, suc, Bool, true, false, cond, T, List, [], ◌∷◌, map, get_or, Some, Ok, Err, refl, subst}
use Rattle.std.specs.Bool.{passes}
use Rattle.script.specs.declared.record.Record.{Record}
use Rattle.script.specs.declared.refusal.Refusal.TheVariants.{FieldOutOfBounds, UnexpectedKind}
use Rattle.script.specs.declared.rows.Row.{Row}
use Rattle.script.specs.declared.rows.Sort.{Sort}
use Rattle.script.specs.declared.rows.Sort.TheVariants.{Expression, Statement, Variable, Function, Parameter, Program, Declaration}
use Rattle.script.specs.declared.rows.Count.TheVariants.{FieldA, FieldV}
use Rattle.script.specs.declared.rows.Operator.{Operator}
use Rattle.script.specs.declared.rows.NodeKind.{NodeKind}
use Rattle.script.specs.declared.rows.NodeKind.TheVariants as is
use Rattle.script.specs.Rows.{rows, row_of, node_of, row, none, one, two, several, name, blank, any, unknown, suits}
use Rattle.script.specs.Shape.{fitting, fields}

-- The row that says a kind.
abbrev pub row_for : NodeKind → Row
row_for is.Number = row is.Number Expression blank any none none
row_for is.Variable = row is.Variable Expression name blank none none
row_for (is.TwoPart o) = row (is.TwoPart o) Expression blank blank (two Expression) none
row_for is.Assignment = row is.Assignment Expression name blank (one Expression) none
row_for is.Call = row is.Call Expression name (Some 15) (several FieldV Expression) none
row_for is.BayRead = row is.BayRead Expression blank blank (one Expression) none
row_for is.BayWrite = row is.BayWrite Expression blank blank (two Expression) none
row_for is.ExpressionStatement = row is.ExpressionStatement Statement blank blank (one Expression) none
row_for is.If = row is.If Statement blank blank (one Expression) (two Statement)
row_for is.While = row is.While Statement blank blank (one Expression) (one Statement)
row_for is.Return = row is.Return Statement blank blank (one Expression) none
row_for is.Block = row is.Block Statement (Some 63) (Some 1023) (several FieldA Variable) (several FieldV Statement)
row_for is.VariableDeclaration = row is.VariableDeclaration Variable name any none none
row_for is.Function = row is.Function Function name (Some 15) (several FieldV Parameter) (one Statement)
row_for is.Parameter = row is.Parameter Parameter name blank none none
row_for is.Program = row is.Program Program (Some 128) blank (several FieldA Declaration) (one Statement)
row_for is.Unknown = unknown

abbrev own_row : Row → Row
own_row r = row_for r.node

get_or-map : (xs : List Row) (i : ℕ) → get_or (map own_row xs) i unknown ≡ own_row (get_or xs i unknown)
get_or-map [] i = refl
get_or-map (x ∷ xs) zero = refl
get_or-map (x ∷ xs) (suc i) = get_or-map xs i

-- Every row of the table is the one that says its kind.
pub row_is : (k : ℕ) → row_of k ≡ row_for (node_of k)
unfolding row_of
row_is k = get_or-map rows k

-- What it says that a record fits: it is of the sort that is wanted, its fields are in bounds, and the row is its own.
pub record Fits (w : Sort) (r : Record) (row : Row) : Type 0 where
  pub suits_it : suits w (row_of r.kind).sort ≡ true
  pub bounded : fields (row_of r.kind) r ≡ true
  pub own : row ≡ row_of r.kind

pub fits : (w : Sort) (r : Record) (at : ℕ) (row : Row) → fitting w r at ≡ Ok row → Fits w r row
fits w r at row e = go (suits w (row_of r.kind).sort) (fields (row_of r.kind) r) refl refl e
  where
    go : (a b : Bool) → suits w (row_of r.kind).sort ≡ a → fields (row_of r.kind) r ≡ b
        → cond a (cond b (Ok (row_of r.kind)) (Err (FieldOutOfBounds at))) (Err (UnexpectedKind at)) ≡ Ok row → Fits w r row
    go true true s f z = record { suits_it = s; bounded = f; own = cc }
    go true false s f z = absurd cc
    go false b s f z = absurd cc

-- The same of the row that says its kind.
pub suited : (w : Sort) (r : Record) (p : ℕ) (q : Row) → fitting w r p ≡ Ok q → T (suits w (row_for (node_of r.kind)).sort)
suited w r p q e = subst (λ (z : Row). T (suits w z.sort)) (row_is r.kind) (passes _ (fits w r p q e).suits_it)

-- What holds of each kind of expression holds of every kind that suits one, and so on for the other sorts.
pub by-expression : (P : NodeKind → Type 0) → P is.Number → P is.Variable → ((o : Operator) → P (is.TwoPart o)) →
    P is.Assignment → P is.Call → P is.BayRead → P is.BayWrite → (q : NodeKind) → T (suits Expression (row_for q).sort) → P q
by-expression P n v t a c r w is.Number i = n
by-expression P n v t a c r w is.Variable i = v
by-expression P n v t a c r w (is.TwoPart o) i = t o
by-expression P n v t a c r w is.Assignment i = a
by-expression P n v t a c r w is.Call i = c
by-expression P n v t a c r w is.BayRead i = r
by-expression P n v t a c r w is.BayWrite i = w
by-expression P n v t a c r w other i = absurd i

pub by-statement : (P : NodeKind → Type 0) → P is.ExpressionStatement → P is.If → P is.While → P is.Return → P is.Block →
    (q : NodeKind) → T (suits Statement (row_for q).sort) → P q
by-statement P s c w r b is.ExpressionStatement i = s
by-statement P s c w r b is.If i = c
by-statement P s c w r b is.While i = w
by-statement P s c w r b is.Return i = r
by-statement P s c w r b is.Block i = b
by-statement P s c w r b other i = absurd i

pub by-declaration : (P : NodeKind → Type 0) → P is.VariableDeclaration → P is.Function →
    (q : NodeKind) → T (suits Declaration (row_for q).sort) → P q
by-declaration P v f is.VariableDeclaration i = v
by-declaration P v f is.Function i = f
by-declaration P v f other i = absurd i

-- A sort of one kind alone.
abbrev pub Only : Sort → NodeKind → Type 0
Only w k = (q : NodeKind) → T (suits w (row_for q).sort) → q ≡ k

pub only-variable : Only Variable is.VariableDeclaration
only-variable is.VariableDeclaration i = refl
only-variable other i = absurd i

pub only-parameter : Only Parameter is.Parameter
only-parameter is.Parameter i = refl
only-parameter other i = absurd i

pub only-program : Only Program is.Program
only-program is.Program i = refl
only-program other i = absurd i
