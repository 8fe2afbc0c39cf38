pub mod NothingStaleLaws
pub mod OwnSlotLaws
pub mod StoredSinceLaws
pub mod SamplesLaws
