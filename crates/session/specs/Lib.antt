pub mod Session
pub mod Step
