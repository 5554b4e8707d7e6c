pub mod Public
pub mod Uses
pub mod Trees
pub mod inside
