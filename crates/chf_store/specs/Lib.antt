pub mod Stored
pub mod Entering
pub mod Refusals
