pub mod ContentModels
pub mod PartSets
pub mod Rules
pub mod Sites
pub mod Stacks
pub mod Calls
pub mod Shown
pub mod Following
