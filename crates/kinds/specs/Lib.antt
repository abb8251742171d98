pub mod Kinds
pub mod Counter
pub mod Rail
pub mod Laws
pub mod Edges
pub mod Words
