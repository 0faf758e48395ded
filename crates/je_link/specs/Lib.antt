pub mod Linked
pub mod OfTypes
