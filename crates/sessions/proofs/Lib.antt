pub mod Standing
pub mod Contents
mod Deciding
