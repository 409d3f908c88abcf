pub mod Horizons
pub mod Contents
pub mod Joining
pub mod Admission
pub mod Meter
pub mod Caches
pub mod Laws
