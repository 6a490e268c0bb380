pub mod Escapes
pub mod Urls
pub mod Safe
pub mod Filter
