pub mod Explained
pub mod FaultLine
pub mod Place
pub mod Shown
