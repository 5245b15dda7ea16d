pub mod Games
pub mod Steps
pub mod Telling
pub mod ToldGames
pub mod ToldNodes
