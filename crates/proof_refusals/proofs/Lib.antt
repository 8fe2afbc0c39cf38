pub mod Scripts
pub mod RefusalsLaws
pub mod Ends
pub mod SharedLaws
pub mod BytesLaws
