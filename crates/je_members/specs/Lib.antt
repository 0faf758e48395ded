pub mod Among
pub mod Subtype
pub mod Common
pub mod Sample
pub mod OnWalk
pub mod Kin
pub mod Ending
pub mod Step
