pub mod Logic
pub mod Integers
pub mod Bytes
