pub mod Piece
pub mod Input
pub mod Examples
