pub mod Definitions
pub mod FootnoteCalls
pub mod Autolinks
pub mod Texts
pub mod Labels
pub mod CharacterReferences
pub mod Media
