pub mod Time
pub mod TimeLaws
