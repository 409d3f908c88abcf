pub mod Pieces
pub mod Ones
pub mod Turns
