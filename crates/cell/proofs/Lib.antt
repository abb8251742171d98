pub mod Literals
pub mod Standing
pub mod ArmAndRun
pub mod CallByCall
pub mod Keeping
pub mod Lists
