pub mod NoReports
pub mod IndexBlocks
pub mod Wanted
