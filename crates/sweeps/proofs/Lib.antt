pub mod Entries
pub mod Walks
pub mod Calls
pub mod Unique
