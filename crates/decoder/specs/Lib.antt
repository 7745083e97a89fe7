pub mod Reading
pub mod Body
