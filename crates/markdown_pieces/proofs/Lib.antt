pub mod Tilings
pub mod Walks
pub mod Spans
