pub mod Forgetting
pub mod Imaging
pub mod Joining
pub mod Merging
pub mod Outputs
pub mod Pairing
