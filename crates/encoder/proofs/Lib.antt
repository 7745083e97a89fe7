pub mod Laid
pub mod Outcome
pub mod Body
pub mod Accept
pub mod Writing
