pub mod Readings
pub mod Passing
pub mod Standing
pub mod PassingLaws
pub mod LooksLaws
pub mod FramesLaws
