pub mod Placing
pub mod Result
pub mod Moving
pub mod Parts
pub mod Items
pub mod Tables
pub mod Sample
