pub mod Laws
pub mod Slot
pub mod OutLaws
pub mod MarksSlots
pub mod StoredLaws
