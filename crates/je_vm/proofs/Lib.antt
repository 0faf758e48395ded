pub mod LocalLemmas
pub mod ActingLemmas
pub mod RunLemmas
