pub mod Only
pub mod Options
pub mod OperatorRows
pub mod TariffRows
pub mod LimitsRow
pub mod SetupRows
pub mod Messages
