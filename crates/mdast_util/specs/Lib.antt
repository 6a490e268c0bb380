pub mod Places
pub mod Definitions
pub mod Outline
pub mod PlainText
