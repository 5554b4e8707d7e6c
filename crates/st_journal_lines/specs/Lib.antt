pub mod Answering
pub mod Journalled
pub mod inside
