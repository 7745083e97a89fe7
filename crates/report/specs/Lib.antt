pub mod Output
pub mod Errors
pub mod Program
