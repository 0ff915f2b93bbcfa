pub mod Stored
pub mod Calls
pub mod Runs
pub mod Promises
