mod InOrder
mod Watching
mod Aligned
mod Answered
mod Leaving
mod Numbering
mod Merged
mod DueOrder
