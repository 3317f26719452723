pub mod Disk
pub mod Identities
pub mod Jobs
pub mod Leading
pub mod Opened
pub mod Telling
pub mod Told
pub mod Moments
