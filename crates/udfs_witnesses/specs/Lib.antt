pub mod Witnesses
pub mod Laws
pub mod Groups
pub mod Adding
