pub mod Calling
pub mod Unique
