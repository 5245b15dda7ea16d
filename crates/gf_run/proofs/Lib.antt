pub mod Asked
pub mod Errors
pub mod Offered
pub mod Written
