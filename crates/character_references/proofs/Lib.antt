pub mod DecoderLemmas
pub mod NamedLemmas
pub mod SearchLemmas
