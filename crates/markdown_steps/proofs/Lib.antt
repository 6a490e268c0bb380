pub mod Outcomes
pub mod Extents
pub mod WellFormed
pub mod Conditions
mod ItemLists
mod RuleLists
pub mod BreakEnds
mod SummaryLaws
pub mod Allowed
pub mod ItemSteps
mod SiblingMarks
mod ColumnKinds
mod TableSteps
mod ForestSteps
mod EventRuns
pub mod VisitCounts
mod NodeCounts
pub mod Compiled
pub mod BufferVisits
pub mod EventVisits
pub mod Refused
pub mod Unbalanced
pub mod WellKept
mod OpenSpans
pub mod Known
mod Fine
pub mod Reasons
pub mod Sayings
pub mod BreakEvents
pub mod Merged
pub mod Consequences
pub mod ConsequencesOfFields
pub mod ConsequencesOfTables
pub mod ConsequencesOfLinks
pub mod SpanLaw
mod Orderly
mod Decorating
mod RowsTexts
mod RowsBreaks
mod RowsHeadings
mod RowsRaw
mod RowsLists
mod RowsTasks
mod RowsMedia
mod RowsTables
mod RowsHostile
mod RowsValues
mod RowWords
