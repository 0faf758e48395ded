pub mod Given
pub mod Kept
pub mod Shown
pub mod Probed
