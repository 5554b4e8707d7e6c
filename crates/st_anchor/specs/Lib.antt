pub mod States
pub mod SignedTexts
pub mod BoundValue
pub mod Gives
pub mod RuleNames
pub mod inside
