pub mod Merged
pub mod Reaching
pub mod Building
