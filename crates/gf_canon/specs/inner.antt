-- Definitions that only proofs and private contracts use.
pub mod ComparedTrees
pub mod KindWord
pub mod ListedInOrder
pub mod NamedBy
pub mod NumberMaps
pub mod TextParts
pub mod ToldFile
