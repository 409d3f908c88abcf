pub mod Numbers
pub mod Hours
pub mod Found
pub mod Begun
pub mod Days
pub mod Switches
pub mod Rows
pub mod Sound
pub mod Taken
pub mod Steps
pub mod Steady
pub mod Ranges
pub mod Costs
pub mod Reserves
mod Few
