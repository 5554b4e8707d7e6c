-- Private: lemmas of the laws, and that an operation that is not awaited leaves a state unchanged.
mod WalkLemmas
-- For the crates above.
-- the laws, and lists whose places ascend
pub mod ResolvedLemmas
-- the bound on the length of a delta, and that a longer one does not count
pub mod LawLemmas
-- one more item is one more step, on any items
pub mod OneMoreLemmas

-- the resolution of anchored operations: one more, a fold of steps
-- the effect of a step; an operation that does not act leaves the state unchanged
