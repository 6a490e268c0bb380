mod Escapes
mod Fragments
pub mod Utf16Counts
mod PointTexts
mod NodeTexts
mod Left
