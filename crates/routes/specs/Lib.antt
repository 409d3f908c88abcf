pub mod Paths
pub mod Calls
pub mod Table
