pub mod Parts
pub mod Word
pub mod WordLaws
pub mod Asked
pub mod Questions
pub mod Goes
pub mod Answering
