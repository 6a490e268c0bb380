pub mod Headings
pub mod HeadingFilter
pub mod HeadingStandings
pub mod Outlines
