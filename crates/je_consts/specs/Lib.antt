pub mod Tags
pub mod Pool
pub mod EntryParts
pub mod Layout
pub mod Reading
pub mod Faults
pub mod Adding
pub mod Indexed
