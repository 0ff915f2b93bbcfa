pub mod Ends
pub mod Unique
pub mod Telling
pub mod Demands
pub mod AsBegun
pub mod Room
