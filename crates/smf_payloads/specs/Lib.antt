pub mod Written
pub mod Read
pub mod Payloads
pub mod Laws
