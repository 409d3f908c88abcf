pub mod Routing
pub mod Responses
pub mod Answering
pub mod Ascending
pub mod Laws
