pub mod Large
pub mod Oldest
pub mod Switching
