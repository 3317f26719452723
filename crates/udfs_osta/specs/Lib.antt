pub mod Escapes
pub mod Fronts
pub mod Labels
pub mod Names
pub mod Parts
pub mod StampTexts
pub mod Stamps
pub mod Texts
