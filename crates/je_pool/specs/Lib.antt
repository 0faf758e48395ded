pub mod Path
pub mod Found
pub mod Pool
pub mod Node
pub mod Asking
pub mod Loading
