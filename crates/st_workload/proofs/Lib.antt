-- Items by number, and the lines of a round.
pub mod OrderLemmas
