pub mod Words
pub mod BuiltIns
pub mod Rows
