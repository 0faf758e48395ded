pub mod Acting
pub mod Frame
pub mod FrameCode
pub mod Machine
