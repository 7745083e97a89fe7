pub mod Requests
pub mod Clean
