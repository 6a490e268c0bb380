pub mod Keeping
pub mod SpanEnds
pub mod LeafEnds
pub mod PartEnds
pub mod Stopping
pub mod Kept
