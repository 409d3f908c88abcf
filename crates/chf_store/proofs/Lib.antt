pub mod Together
pub mod Refused
