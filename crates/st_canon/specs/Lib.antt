pub mod View
pub mod Packed
pub mod formers
pub mod inside
