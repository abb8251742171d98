-- Each list of cases stands by a function of its own.
use Rattle.cases.proofs.worked_cases_hold.Goals as goal

pub returns : goal.returns
returns c = record {
  tables_and_walks = c.worked_cases_hold.ensures;
  code = c.end_bay_code_stands.ensures;
  cells = c.cell_cases_hold.ensures;
}
