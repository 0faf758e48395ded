pub mod CatchLemmas
pub mod CodeLemmas
