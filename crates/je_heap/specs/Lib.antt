pub mod ValueCode
pub mod Codes
pub mod Stored
pub mod Object
pub mod Outside
pub mod OutsideCode
pub mod Response
