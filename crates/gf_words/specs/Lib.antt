-- The definitions that the contracts of this crate cite.
pub mod CommandLine
pub mod GameNames
pub mod Request
pub mod inner
