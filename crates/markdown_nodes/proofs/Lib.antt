mod ComparingLevels
mod CopyingLevels
mod Dropping
pub mod Levels
mod Sizes
pub mod WritingLevels
mod Showing
pub mod Joining
pub mod Views
pub mod Copying
pub mod Comparing
pub mod StructsEqual
pub mod Labels
pub mod WalkSteps
mod WalkTexts
