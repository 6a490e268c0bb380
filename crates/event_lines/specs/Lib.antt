pub mod Lines
pub mod Errors
pub mod Fronts
pub mod Written
