pub mod EachKind
pub mod Turns
pub mod NumberFound
