pub mod ChoicesGiven
pub mod NodeLists
pub mod PaidRows
pub mod Rows
pub mod Still
pub mod ValueLeft
pub mod Values
