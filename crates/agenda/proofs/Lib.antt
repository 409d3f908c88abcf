mod Pairs
mod Building
mod Setting
mod Finding
mod Roomy
