pub mod Left
pub mod Outcomes
pub mod Refusals
pub mod Shared
pub mod Bytes
