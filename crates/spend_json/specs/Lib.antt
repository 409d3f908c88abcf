pub mod Address
pub mod Context
pub mod ContextWritten
pub mod Status
pub mod StatusWritten
pub mod Ranges
pub mod Cause
