pub mod Going
pub mod Leading
pub mod Logs
pub mod Meeting
pub mod Slashes
pub mod Taken
