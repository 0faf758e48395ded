pub mod Slices
pub mod NameFronts
pub mod FieldFronts
pub mod Descriptors
pub mod MethodFronts
pub mod Decides
