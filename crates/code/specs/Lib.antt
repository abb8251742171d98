pub mod Instructions
pub mod Scheme
pub mod CodeCases
