-- The lemmas of this crate.
pub mod Added
pub mod Entered
pub mod Simple
pub mod Tied
