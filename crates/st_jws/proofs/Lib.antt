pub mod SignedLemmas
pub mod KeyLemmas
