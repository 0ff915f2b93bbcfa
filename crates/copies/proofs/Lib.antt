pub mod Words
pub mod Slots
