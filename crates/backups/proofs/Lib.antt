pub mod Bits
pub mod Sound
pub mod Opening
