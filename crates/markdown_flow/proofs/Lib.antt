pub mod Lines
pub mod Cursors
pub mod Outputs
pub mod Contents
pub mod Moves
pub mod Flows
pub mod Inputs
pub mod Opens
pub mod Containers
pub mod Readers
pub mod Cuts
pub mod Ascii
pub mod Rows
pub mod Numbers
pub mod Items
pub mod Marks
pub mod Definitions
pub mod Tails
pub mod HtmlEnds
pub mod Nexts
pub mod Scanned
mod CodeExamples
mod LineSizes
