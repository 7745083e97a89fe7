pub mod Listed
pub mod Readings
pub mod Rewriting
