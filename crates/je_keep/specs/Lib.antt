pub mod MethodCode
pub mod Sample
