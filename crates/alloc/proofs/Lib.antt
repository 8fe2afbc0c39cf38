pub mod Product
pub mod OutcomeLaws
pub mod RunLaws
pub mod SoundLaws
pub mod ApartLaws
pub mod RowsLaws
