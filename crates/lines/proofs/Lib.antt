pub mod Places
pub mod Digits
pub mod Pieces
