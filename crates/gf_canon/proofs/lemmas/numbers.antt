pub mod Canonical
pub mod CarriedPairs
pub mod InOrder
pub mod Kept
pub mod Noted
pub mod PairsInTurn
