pub mod Filed
pub mod FreshIn
pub mod FirstAsks
pub mod Places
pub mod Fresh
pub mod Named
pub mod Results
pub mod Admitted
pub mod Walks
pub mod Clear
pub mod Owned
pub mod Keyed
pub mod NameLists
pub mod Consumers
pub mod Few
pub mod Subscribed
pub mod Following
pub mod Charging
mod Moved
mod Counted
mod Allowed
mod Lines
mod HeldGrant
mod WithinGrants
mod Bounded
mod FirstReplies
mod Suits
mod JoinedParts
mod JoinedMoney
mod JoinedWatched
pub mod Stepped
mod JoinedRequests
mod Entered
mod References
mod SessionLists
mod ByKept
pub mod Drafting
mod OwnKeys
mod Deciding
mod SessionLines
pub mod OpenRecords
mod Requested
mod FiledRecords
mod HeldRecords
mod Switches
mod InRange
mod TextTables
mod PlacedRequests
pub mod OwnedState
pub mod EnteredKeys
