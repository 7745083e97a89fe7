pub mod Little
pub mod Bits
pub mod Saturated
