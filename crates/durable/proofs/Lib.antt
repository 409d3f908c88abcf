pub mod Others
pub mod Holding
