pub mod Stamp
pub mod Calls
pub mod Setup
pub mod SetupLaws
pub mod Woken
pub mod Preview
pub mod Readings
pub mod ReadingsLaws
