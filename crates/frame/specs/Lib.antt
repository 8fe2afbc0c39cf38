pub mod Usb20
pub mod Advance
pub mod Laws
