pub mod SetupRow
pub mod EventRow
