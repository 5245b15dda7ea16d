pub mod Duplicates
pub mod LedTo
pub mod Lines
pub mod Opening
pub mod Performs
pub mod Reports
pub mod inner
