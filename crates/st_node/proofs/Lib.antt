pub mod ReplyLemmas
mod ContentLemmas
pub mod ChangedLemmas
mod WorkLemmas
pub mod LawLemmas
