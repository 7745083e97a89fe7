pub mod Framed
mod Cases
