pub mod Packed
pub mod Round
