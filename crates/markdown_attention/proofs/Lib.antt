pub mod Characters
pub mod Classes
pub mod Costs
pub mod Ends
mod FlankingExamples
pub mod Domains
pub mod Segments
pub mod Barred
pub mod Autolinks
mod AddressExamples
pub mod Marks
pub mod Pairs
pub mod Stack
pub mod Taking
pub mod Unique
pub mod Nesting
pub mod OpenPairs
pub mod Begun
pub mod Lying
pub mod Balance
pub mod Sequences
