pub mod Sizes
pub mod Through
pub mod Unique
pub mod Kept
pub mod Carried
pub mod Garbage
