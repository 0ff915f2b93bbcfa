pub mod Placed
pub mod Built
