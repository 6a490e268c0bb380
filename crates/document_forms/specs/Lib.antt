pub mod Errors
pub mod Documents
pub mod Compiled
