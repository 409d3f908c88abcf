pub mod State
pub mod Held
pub mod Refusals
