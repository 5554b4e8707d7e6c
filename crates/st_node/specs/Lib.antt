pub mod Laws
pub mod Machine
pub mod Command
pub mod Peer
pub mod Work
pub mod inside
