pub mod WordBytes
pub mod Parts
pub mod Inverse
