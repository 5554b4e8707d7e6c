pub mod Peer
pub mod Message
pub mod inside
