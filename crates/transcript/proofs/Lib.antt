pub mod BytesTaken
pub mod Parts
pub mod CallLines
pub mod Lines
