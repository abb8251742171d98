pub mod CellCases
pub mod WorkedCases
