-- Definitions that only proofs and private contracts use.
pub mod AddsUp
pub mod FoundSet
pub mod GameCode
pub mod GameParts
pub mod GrowsAgain
pub mod Hashers
pub mod KeptNodes
pub mod Machine
pub mod Probability
pub mod ReadGame
pub mod ReaderState
pub mod Shares
pub mod Skipped
pub mod Steps
pub mod StoredOutcomes
pub mod StoredSets
pub mod Stretches
