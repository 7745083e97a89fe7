pub mod Widths
pub mod Refusals
