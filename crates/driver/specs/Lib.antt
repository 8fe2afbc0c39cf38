pub mod Points
pub mod Announce
pub mod AnnounceLaws
pub mod Codec
pub mod CodecLaws
pub mod Each
pub mod EachLaws
pub mod PointsLaws
