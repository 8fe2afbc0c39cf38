pub mod FlushLaws
pub mod FilledLaws
pub mod GrownLaws
pub mod CallsLaws
pub mod StoresLaws
pub mod SurvivesLaws
