pub mod SlotLemmas
pub mod MakingLemmas
pub mod ClassLemmas
pub mod AlikeLemmas
pub mod WantLemmas
