mod Answered
mod Ascends
