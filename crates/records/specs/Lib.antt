pub mod Records
pub mod Classes
pub mod Reading
pub mod Supposed
pub mod Promises
