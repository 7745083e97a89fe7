pub mod Wire
pub mod Prefix
pub mod Told
pub mod Reader
pub mod Usbredir
