pub mod Size
pub mod Setup
pub mod OperatorRow
