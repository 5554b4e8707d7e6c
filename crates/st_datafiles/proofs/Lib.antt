-- For the crates above: a written file fails no rule and is read again.
pub mod FileLemmas
