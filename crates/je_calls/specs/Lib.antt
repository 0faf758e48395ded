pub mod Blocks
pub mod Chosen
pub mod Choices
pub mod Means
pub mod Method
pub mod RefRun
pub mod Result
