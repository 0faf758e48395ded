pub mod Seen
pub mod Alike
