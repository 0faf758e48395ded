pub mod NameLemmas
pub mod NumberLemmas
pub mod TextLemmas
pub mod ScanLemmas
pub mod CutLemmas
pub mod MarkLemmas
pub mod SliceLemmas
