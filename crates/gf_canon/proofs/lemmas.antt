pub mod files
pub mod numbers
pub mod sameness
pub mod texts
