pub mod Written
pub mod Layout
