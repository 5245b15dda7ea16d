-- Definitions that only proofs and private contracts use.
pub mod Classes
pub mod ComparedTable
pub mod Heard
pub mod ListedTable
pub mod ListsLeft
pub mod Machine
pub mod Meaning
pub mod PayoffLists
pub mod ReaderState
pub mod TableParts
pub mod TextParts
pub mod TextRest
pub mod Told
pub mod ToldTable
pub mod ToldText
