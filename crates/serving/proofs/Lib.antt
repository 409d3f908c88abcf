pub mod Reached
pub mod Writing
pub mod Talking
pub mod Ending
pub mod Visiting
pub mod Counting
pub mod SayingTheSame
