pub mod Keeping
pub mod Visits
pub mod Marked
pub mod Listed
pub mod Sample
pub mod Inner
