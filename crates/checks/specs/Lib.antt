pub mod Checks
pub mod Change
pub mod Ruled
