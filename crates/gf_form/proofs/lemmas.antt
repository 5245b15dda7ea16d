pub mod form
pub mod reduced
pub mod rows
pub mod strategies
pub mod values
