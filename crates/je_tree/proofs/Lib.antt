mod FaultLemmas
mod CountLemmas
