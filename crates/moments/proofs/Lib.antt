pub mod Dates
pub mod Shown
pub mod Dated
pub mod Reading
