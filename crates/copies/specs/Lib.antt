pub mod Records
pub mod Copies
