pub mod Prefix
pub mod Told
pub mod Calls
pub mod Demand3
pub mod Usbredir
