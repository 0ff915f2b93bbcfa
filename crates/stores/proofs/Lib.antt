pub mod Planned
pub mod Unique
