pub mod Sides
pub mod Texts
pub mod Talk
pub mod Visits
pub mod Laws
