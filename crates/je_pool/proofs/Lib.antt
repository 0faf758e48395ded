pub mod PathLemmas
pub mod NodeLemmas
pub mod AskingLemmas
pub mod FrontLemmas
pub mod PoolLemmas
pub mod SeekLemmas
