pub mod NameLemmas
pub mod TypeLemmas
pub mod ListLemmas
pub mod SwitchLemmas
pub mod SimpleLemmas
pub mod ProgramLemmas
