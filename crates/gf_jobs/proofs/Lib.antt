pub mod Going
pub mod Grouped
pub mod GroupsText
pub mod Listed
pub mod Reported
pub mod Walked
