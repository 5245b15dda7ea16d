pub mod Faults
pub mod Run
pub mod Streams
pub mod Texts
