pub mod Sums
pub mod Stands
pub mod Asks
pub mod ByList
pub mod Quiet
pub mod Deadlines
