pub mod Decoder
pub mod Named
pub mod Html
pub mod Search
