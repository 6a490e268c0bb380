pub mod Titling
pub mod Gathering
pub mod Asking
pub mod Reporting
pub mod Reading
pub mod Surrounding
pub mod Linting
pub mod Undefining
