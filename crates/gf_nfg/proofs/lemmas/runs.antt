pub mod Common
pub mod Ends
pub mod Payoffs
pub mod ReaderSteps
pub mod Sentence
pub mod Strategies
