pub mod Nest
pub mod Readings
pub mod ValueTexts
pub mod WholeValues
pub mod Marks
pub mod PartsSoFar
pub mod Labels
