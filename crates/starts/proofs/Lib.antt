pub mod Formatting
pub mod Recovering
pub mod Unique
pub mod Said
