pub mod CoreParts
