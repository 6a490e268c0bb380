mod Lines
mod NoHeadings
mod Rows
mod HeadingItems
mod HeadingOutlines
mod HeadingsAccepted
mod HeadingFiltering
pub mod HeadingTrees
pub mod HeadingSinks
