mod Inserts
mod Levels
mod Literal
mod Names
mod Places
