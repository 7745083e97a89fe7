pub mod Decoded
pub mod EachKind
pub mod WithData
pub mod RestSlots
pub mod WrongSize
pub mod Told
