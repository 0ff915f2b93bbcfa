pub mod Encoding
pub mod Supposed
pub mod Places
pub mod Promises
