pub mod Fields
pub mod Body
pub mod Cause
pub mod Objects
pub mod Tokens
pub mod ReadBack
pub mod Sizes
