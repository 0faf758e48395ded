pub mod KeyLemmas
pub mod PutLemmas
pub mod ArrayLemmas
pub mod ThrowLemmas
