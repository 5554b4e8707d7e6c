pub mod Exchange
pub mod LineLaws
pub mod Run
pub mod inside
