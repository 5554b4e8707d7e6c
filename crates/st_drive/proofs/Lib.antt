pub mod LineLemmas
pub mod RunLemmas
pub mod FedLemmas
pub mod EndLemmas
pub mod TableLemmas
pub mod OnDiskLemmas
pub mod SpendingLemmas
