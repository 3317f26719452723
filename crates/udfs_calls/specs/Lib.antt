pub mod Disk
pub mod Files
pub mod Lawful
pub mod Log
pub mod Paths
