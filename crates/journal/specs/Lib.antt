pub mod Bytes
pub mod Lists
pub mod Reads
pub mod Refusals
pub mod Stages
pub mod State
pub mod Laws
