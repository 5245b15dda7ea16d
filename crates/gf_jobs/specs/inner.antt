-- Definitions that only proofs and private contracts use.
pub mod KeptNames
