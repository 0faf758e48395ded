pub mod Names
pub mod FieldType
pub mod Descriptor
pub mod Front
pub mod Types
pub mod Fit
