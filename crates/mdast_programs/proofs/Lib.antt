mod OutcomeLemmas
mod RunLemmas
pub mod CheckLemmas
