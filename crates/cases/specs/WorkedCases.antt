-- The worked cases of the whole product, as one list about its definitions.
use Rattle.walk.specs.WorkedCases as walks
use Rattle.code.specs.CodeCases.{EndBayCase}
use Rattle.cases.specs.CellCases.{CellCases}

-- Which tables are accepted and why others are refused, how the tree run and a walk of the accepted ones end, and what
-- they leave; the code of the end-bay table, instruction by instruction; and whole jobs on an unused cell.
pub record WorkedCases : Type 0 where
  pub tables_and_walks : walks.WorkedCases
  pub code : EndBayCase
  pub cells : CellCases
