mod KeyLemmas
mod RowLemmas
mod FoldLemmas
pub mod Placed
