pub mod Literals
pub mod RailSums
pub mod Laws
pub mod Whole
pub mod Edges
