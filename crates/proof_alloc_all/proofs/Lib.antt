pub mod OrderLaws
pub mod BroughtLaws
pub mod PreviewLaws
