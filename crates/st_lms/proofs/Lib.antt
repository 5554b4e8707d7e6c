pub mod KeyLemmas
pub mod ChainLemmas
pub mod LawLemmas
pub mod TreeLemmas
