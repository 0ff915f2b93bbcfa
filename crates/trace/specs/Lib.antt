pub mod Lent
pub mod Trace
