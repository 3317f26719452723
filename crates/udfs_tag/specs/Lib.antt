pub mod Crc
pub mod Faults
pub mod Fields
pub mod Steps
pub mod Tags
