pub mod StepList
pub mod Named
pub mod Picked
pub mod Spent
pub mod OnAccounts
pub mod Telling
