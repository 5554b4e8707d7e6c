pub mod CoreIndex
pub mod ProvisionalIndex
pub mod inside
