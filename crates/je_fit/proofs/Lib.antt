pub mod FrameLemmas
pub mod FlowLemmas
pub mod StepLemmas
pub mod EntryLemmas
pub mod RunLemmas
pub mod SoundLemmas
pub mod SampleLemmas
