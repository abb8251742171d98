pub mod Accepted
pub mod Outcomes
pub mod Showing
pub mod Promises
