pub mod Encoding
pub mod Recognized
pub mod Blocks
pub mod Limits
