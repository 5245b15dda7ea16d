-- Definitions that only proofs and private contracts use.
pub mod Finding
pub mod Indices
pub mod Lexing
pub mod Machine
