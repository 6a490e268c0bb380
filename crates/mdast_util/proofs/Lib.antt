pub mod Adding
pub mod Children
pub mod Reaching
pub mod Defining
pub mod Outlining
pub mod Wording
pub mod BareTexts
