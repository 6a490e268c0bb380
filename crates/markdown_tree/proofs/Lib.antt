pub mod Misfits
pub mod Beginnings
pub mod Endings
pub mod Unfinished
pub mod Loop
pub mod Answered
mod Building
