-- Definitions that only proofs and private contracts use.
pub mod reduced
pub mod rows
pub mod strategies
pub mod values
