pub mod Walks
pub mod Plain
mod Tilings
mod Holding
mod Recording
mod Misfits
mod Consequences
pub mod Models
pub mod Stages
pub mod Moves
pub mod Standing
