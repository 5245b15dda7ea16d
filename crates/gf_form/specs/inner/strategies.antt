pub mod Counted
pub mod LabelTexts
pub mod ProfileNumbers
