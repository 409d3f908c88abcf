pub mod Value
pub mod Split
