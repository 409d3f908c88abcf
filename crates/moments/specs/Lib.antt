pub mod Calendar
pub mod Digits
pub mod Text
pub mod Stamp
