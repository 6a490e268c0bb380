pub mod Readings
pub mod Ends
pub mod Roots
pub mod Plain
pub mod HiddenSoFar
pub mod Plainly
mod OutlineTaking
mod TextTaking
