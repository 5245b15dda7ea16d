pub mod places
pub mod runs
pub mod tables
pub mod texts
