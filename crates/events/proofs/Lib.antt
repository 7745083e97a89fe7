pub mod EachKind
pub mod TableRows
