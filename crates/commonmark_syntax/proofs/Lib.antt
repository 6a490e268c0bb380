pub mod Clear
pub mod Counts
pub mod Cuts
pub mod Exact
pub mod Goes
pub mod Loops
pub mod Names
pub mod OpenTag
pub mod Fronts
pub mod Scans
pub mod Searches
pub mod Sizes
pub mod Ascii
pub mod Sound
pub mod Tests
pub mod Views
pub mod Words
pub mod Comments
pub mod Enclosed
pub mod Titles
pub mod Labels
pub mod Parentheses
pub mod Destinations
pub mod Marks
pub mod Backwards
pub mod Strings
pub mod DomainLabels
pub mod Blanks
pub mod Resources
pub mod Definitions
pub mod AnyCase
pub mod References
pub mod Runs
pub mod Markers
pub mod Breaks
pub mod Html
pub mod HtmlTags
pub mod Headings
pub mod Rows
pub mod Footnotes
pub mod InfoStrings
pub mod Paths
pub mod Trails
pub mod TrailsAhead
pub mod LocalParts
pub mod Protocols
pub mod LiteralDomains
pub mod EmailLiterals
mod Examples
mod BlockExamples
mod InlineExamples
mod LinkExamples
mod Computed
