pub mod Judging
pub mod Replays
