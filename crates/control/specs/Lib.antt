pub mod Points
pub mod Rows
pub mod Codec
pub mod CodecLaws
pub mod PointsLaws
