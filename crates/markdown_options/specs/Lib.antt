pub mod Options
pub mod Spans
