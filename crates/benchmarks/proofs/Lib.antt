pub mod Begun
pub mod CountedUp
pub mod Firsts
