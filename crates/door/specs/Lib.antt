pub mod Doors
pub mod Answers
pub mod Promises
pub mod Early
