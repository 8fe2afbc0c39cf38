pub mod RowsLaws
pub mod Lent
pub mod ContractsLaws
pub mod StandsLaws
pub mod PointsStandsLaws
