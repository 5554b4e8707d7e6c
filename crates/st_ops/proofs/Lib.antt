-- Private: properties of a request that was read, step by step.
mod RequestLemmas
pub mod AcceptedLemmas
pub mod AgainLemmas

-- For the crates above: the conditions on an operation that a request is accepted for, and that they hold
-- the text of an operation is a request for it
