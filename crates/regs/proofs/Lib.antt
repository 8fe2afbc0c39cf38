pub mod Words
pub mod Fits
pub mod Places
pub mod Tokens
