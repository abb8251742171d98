-- That a tree fits a sort is shown in one way at most, so a table can hold the fact.
use Rattle.std.specs.Prelude.{List, [], ◌∷◌, Result}
use Rattle.std.specs.Coded.{×_prop, Unit-prop, Coded-set, coded_result}
use Rattle.script.specs.contracts.refusal.Refusal as refusal
use Rattle.script.specs.contracts.rows.Row as row
use Rattle.script.specs.declared.refusal.Refusal.{Refusal}
use Rattle.script.specs.declared.rows.Row.{Row}
use Rattle.script.specs.declared.rows.Sort.{Sort}
use Rattle.script.specs.Rows.{row_of, wants}
use Rattle.syntax.specs.Trees.{Tree, Forest, node, none, more, Sound, Sounds}

-- Two answers of a record's check are equal in one way at most: rows and refusals are.
fitting-set : IsSet (Result Row Refusal)
fitting-set = Coded-set (coded_result row.the_row.coded refusal.the_row.coded)

-- Sound is the answer of a record's check, at a tree's head and at each of its parts.
mutual
  pub Sound-prop : (t : Tree) (w : Sort) → IsProp (Sound t w)
  Sound-prop (node p r ts) w = ×_prop (fitting-set _ _) (Sounds-prop ts (wants (row_of r.kind) r))

  pub Sounds-prop : (ts : Forest) (ws : List Sort) → IsProp (Sounds ts ws)
  Sounds-prop none [] = Unit-prop
  Sounds-prop none (w ∷ ws) = λ x y. absurd x
  Sounds-prop (more t ts) [] = λ x y. absurd x
  Sounds-prop (more t ts) (w ∷ ws) = ×_prop (Sound-prop t w) (Sounds-prop ts ws)
