pub mod PartsLemmas
pub mod ItemsLemmas
pub mod TablesLemmas
pub mod RedirectLemmas
pub mod ShapesLemmas
pub mod CodeLemmas
pub mod MeantLemmas
pub mod SplicingLemmas
