pub mod Lists
pub mod OneTable
pub mod PayoffLines
pub mod Pieces
pub mod SharedLines
pub mod Told
