pub mod Lists
pub mod Parts
pub mod Codes
pub mod Emitters
pub mod Steps
pub mod Declared
pub mod Programs
pub mod Lengths
