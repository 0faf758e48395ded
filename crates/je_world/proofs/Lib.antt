pub mod EntryLemmas
pub mod LeadsLemmas
pub mod SearchLemmas
pub mod WalkLemmas
pub mod OneWalkLemmas
