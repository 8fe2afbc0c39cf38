pub mod Heard
pub mod Still
pub mod Twins
pub mod Machines
pub mod Code
pub mod Ends
pub mod EndsLaws
pub mod Rooms
