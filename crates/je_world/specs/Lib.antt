pub mod Question
pub mod Seen
pub mod World
pub mod Entry
pub mod MapWorld
pub mod Walk
pub mod Search
pub mod Sample
