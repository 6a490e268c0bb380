pub mod Settings
pub mod Saying
pub mod Standings
pub mod Shown
pub mod Texts
