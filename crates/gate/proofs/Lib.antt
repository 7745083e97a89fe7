pub mod Ready
pub mod Judge
pub mod Outcomes
mod Deciding
mod Taken
mod Writing
