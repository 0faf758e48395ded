pub mod ConstLemmas
pub mod FormedLemmas
pub mod EntryLemmas
pub mod SampleLemmas
