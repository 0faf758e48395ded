pub mod RunLemmas
pub mod MethodLemmas
pub mod IndexLemmas
