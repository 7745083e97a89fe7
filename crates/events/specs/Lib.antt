pub mod Meaning
pub mod Event
pub mod Status
pub mod Examples
pub mod Proper
