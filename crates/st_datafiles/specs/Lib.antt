pub mod Chunk
pub mod ProofFiles
