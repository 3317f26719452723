pub mod ForgettingLemmas
pub mod ImagingLemmas
mod PastEnds
pub mod PairingLemmas
mod MergingLemmas
mod OutlookLemmas
mod EntryTables
pub mod OldClauses
mod ImagedLemmas
