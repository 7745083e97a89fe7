pub mod Link
pub mod Header
pub mod Refusal
