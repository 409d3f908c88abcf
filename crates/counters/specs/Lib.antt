pub mod Row
pub mod Names
pub mod Status
pub mod Grammar
pub mod Caches
pub mod Watching
pub mod Subscriptions
