pub mod EitherFormat
pub mod Formats
pub mod Judged
pub mod Refused
pub mod RefusedOnce
pub mod Texts
