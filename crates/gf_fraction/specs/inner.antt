-- Definitions that only proofs and private contracts use.
pub mod Computed
pub mod NumberScan
pub mod ShortNumber
pub mod Steps
