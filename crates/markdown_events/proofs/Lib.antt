pub mod Booleans
pub mod Decimals
pub mod Cuts
pub mod LineEndings
pub mod Collapsing
pub mod Spellings
pub mod Unique
pub mod Loose
pub mod Lists
pub mod Searches
pub mod Spans
mod Folding
pub mod OpenSpans
pub mod Aligns
