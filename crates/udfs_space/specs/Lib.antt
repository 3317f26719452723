pub mod Sparing
pub mod Places
pub mod Parts
pub mod Standard
pub mod Laws
pub mod Told
pub mod Sample
pub mod Views
