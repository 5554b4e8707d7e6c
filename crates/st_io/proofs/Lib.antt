mod CrashLemmas
pub mod HistoryLemmas
