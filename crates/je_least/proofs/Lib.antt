pub mod TestLemmas
pub mod ArriveLemmas
pub mod SearchLemmas
pub mod LostLemmas
pub mod FaultLemmas
pub mod StepLemmas
