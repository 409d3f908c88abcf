pub mod Content
pub mod Kept
pub mod Trace
pub mod Decided
