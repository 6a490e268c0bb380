-- Where the filter of headings stands.
use Rattle.std.specs.Prelude.{Bool, List, false, suc, true, zero, ℕ, ◌≡◌}
use Rattle.markdown_events.specs.declared.event.Event.{Event}
use Rattle.markdown_events.specs.declared.event.Kind.{Kind}
use Rattle.markdown_events.specs.declared.event.Kind.TheVariants.{Enter}
use Rattle.markdown_events.specs.declared.event.Name.{Name}
use Rattle.markdown_outline.specs.HeadingFilter.{Standing, after_all, closed, filtered, loses_heading, loses_none, moved, outside, within}
use Rattle.markdown_outline.specs.declared.heading_filter.HeadingFilter.{HeadingFilter}

-- in no span that matters, or in one that does: a heading, or a span where none is searched for
abbrev pub standing_in : Bool → ℕ → Standing
standing_in in_heading zero = outside
standing_in true (suc depth) = within depth
standing_in false (suc depth) = closed depth

-- where a filter stands
abbrev pub standing : HeadingFilter → Standing
standing filter = standing_in filter.in_heading filter.depth

-- what an event does: if no heading is lost after it, none was before it, it loses none, and the filter moves
pub record Moves (kind : Kind) (name : Name) (old new : HeadingFilter) : Type 0 where
  pub before : new.loses ≡ false → old.loses ≡ false
  pub none : new.loses ≡ false → loses_heading (standing old) kind name ≡ false
  pub stands : new.loses ≡ false → standing new ≡ moved (standing old) kind name

-- what a token does: if no heading is lost after it, none was before it, and it loses none; the filter stands where it did
pub record Stays (name : Name) (old new : HeadingFilter) : Type 0 where
  pub before : new.loses ≡ false → old.loses ≡ false
  pub none : new.loses ≡ false → loses_heading (standing old) Enter name ≡ false
  pub stands : standing new ≡ standing old

-- unless a heading is lost, the filter stands where it does after these events, and passed on those
pub record HasPassed (events passed : List Event) (filter : HeadingFilter) : Type 0 where
  pub none : filter.loses ≡ false → loses_none outside events ≡ true
  pub stands : filter.loses ≡ false → standing filter ≡ after_all outside events
  pub passed_on : filter.loses ≡ false → passed ≡ filtered outside events
