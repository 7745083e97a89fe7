pub mod Scan
pub mod Loop
