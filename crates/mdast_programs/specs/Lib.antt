pub mod Programs
pub mod Requests
pub mod Outcomes
pub mod Parsed
pub mod Run
pub mod Check
