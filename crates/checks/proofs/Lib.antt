pub mod Words
pub mod Walking
pub mod Summing
pub mod Flaws
pub mod Passed
pub mod Settled
