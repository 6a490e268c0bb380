pub mod Nesting
mod Joins
pub mod Views
pub mod OnlyPlaces
pub mod Readings
pub mod TextCuts
pub mod WholeTexts
pub mod SliceReads
pub mod Numbers
pub mod HiddenWalk
pub mod Childless
