pub mod Queue
pub mod Groups
pub mod Batch
pub mod Flushed
pub mod Laws
pub mod inside
