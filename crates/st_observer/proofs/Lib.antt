-- Private: lemmas for the observer's calls.
mod WaitingLemmas
mod WantedLemmas
mod StoredLemmas
mod OperationsLemmas
mod GoingLemmas
pub mod WorkLemmas
mod LookingLemmas
mod ObserverLemmas

-- For the crates above.
-- no count fell
