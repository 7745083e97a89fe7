pub mod Lines
pub mod Flaws
pub mod Examples
