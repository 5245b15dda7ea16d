pub mod Plays
pub mod Still
pub mod BottomUp
pub mod ValuesComputed
pub mod Walks
