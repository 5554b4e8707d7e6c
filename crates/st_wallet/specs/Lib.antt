pub mod Words
pub mod Command
pub mod Drafts
pub mod Machine
pub mod inside
