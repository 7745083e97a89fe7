pub mod Verdict
pub mod Offer
pub mod Ready
pub mod Decide
pub mod Write
