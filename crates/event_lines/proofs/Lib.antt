mod ChunkLemmas
mod CutLemmas
mod HeadLemmas
pub mod LinesLemmas
mod NumberLemmas
mod PointLemmas
