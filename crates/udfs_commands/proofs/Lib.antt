pub mod ObeyingLemmas
pub mod PerformingLemmas
