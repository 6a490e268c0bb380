-- The condition of each call on the open spans, and the open spans after it. For a caller that must prove that no call is refused.
use Rattle.std.specs.Prelude.{Bool, Err, List, None, Option, Result, Some, [], false, true, ℕ, ◌&&◌, ◌∷◌, ◌≡◌}
use Rattle.markdown_events.specs.Around.{in_the_open, may_begin, under}
use Rattle.markdown_events.specs.Forest.{exit}
use Rattle.markdown_events.specs.Names.{role_of}
use Rattle.markdown_events.specs.declared.event.Event.{Event}
use Rattle.markdown_events.specs.declared.event.Name.{Name}
use Rattle.markdown_events.specs.declared.event.Point.{Point}
use Rattle.markdown_events.specs.declared.role.Role.{Role}
use Rattle.markdown_events.specs.declared.role.Role.TheVariants.{Significant as significant, Transparent as transparent}
use Rattle.markdown_grammar.specs.Document.{Source}
use Rattle.markdown_grammar.specs.Grammar.{any_content}
use Rattle.markdown_acceptance.specs.ContentModels.{grammar_model}
use Rattle.markdown_acceptance.specs.Sites.{IsAfter, IsEntered, is_complete, may_enter, reads, takes_empty}
use Rattle.markdown_acceptance.specs.Stacks.{Stack}
use Rattle.markdown_acceptance.specs.declared.error.WriteError.{WriteError}
use Rattle.markdown_acceptance.specs.declared.error.WriteError.TheVariants as errors
use Rattle.markdown_acceptance.specs.declared.open_spans.Frame.{Frame}
use Rattle.markdown_acceptance.specs.declared.open_spans.Outer.{Outer}
use Rattle.markdown_acceptance.specs.declared.site.Site.{Site}

-- this holds if the call is a misfit
abbrev pub IfMisfit : {X : Type 0} → Result X WriteError → Type 0 → Type 0
IfMisfit (Err errors.Misfit) P = P
IfMisfit _ P = Unit {0}

-- ---- An enter

abbrev pub may_open_as : List ℕ → Site → Role → Point → Bool
may_open_as bytes site (transparent k) point = true
may_open_as bytes site (significant what) point = may_enter bytes site what point

-- a span may begin
abbrev pub may_open : List ℕ → Stack → Name → Point → Bool
may_open bytes spans name point = may_begin spans.around (role_of name) && may_open_as bytes spans.site (role_of name) point

-- for a significant span: what it is, and the site at which it begins
abbrev pub outer_of : Role → Site → Option Outer
outer_of (transparent k) site = None
outer_of (significant what) site = Some (record { what = what; site = site })

-- the site in a span; in a transparent span it is the site around it
abbrev pub IsInside : Role → Site → Site → Type 0
IsInside (transparent k) site new = new ≡ site
IsInside (significant what) site new = IsEntered what site new

-- a span has begun
pub record Opened (name : Name) (point : Point) (old new : Stack) : Type 0 where
  pub frames : new.frames ≡ record { name = name; start = point; around = old.around; outer = outer_of (role_of name) old.site } ∷ old.frames
  pub around : new.around ≡ under old.around (role_of name)
  pub site : IsInside (role_of name) old.site new.site

-- ---- A token: a span with nothing in it

abbrev pub may_write_as : Source → Site → Role → Point → Point → Bool
may_write_as s site (transparent k) start end = true
may_write_as s site (significant what) start end = may_enter s.bytes site what start && (takes_empty site what && reads s site what start end)

-- a token may be written
abbrev pub may_write : Source → Stack → Name → Point → Point → Bool
may_write s spans name start end = may_begin spans.around (role_of name) && may_write_as s spans.site (role_of name) start end

-- the site after a token
abbrev pub IsAfterToken : Role → Site → Site → Type 0
IsAfterToken (transparent k) site new = new ≡ site
IsAfterToken (significant what) site new = IsAfter what false false site new

-- a token has been written
pub record AfterToken (name : Name) (old new : Stack) : Type 0 where
  pub frames : new.frames ≡ old.frames
  pub around : new.around ≡ old.around
  pub site : IsAfterToken (role_of name) old.site new.site

-- ---- An exit

abbrev pub may_close_as : Source → Option Outer → Point → Site → Point → Bool
may_close_as s None start own end = true
may_close_as s (Some outer) start own end = is_complete own && reads s outer.site outer.what start end

-- the innermost span may end
abbrev pub may_close : Source → Stack → Point → Bool
may_close s spans end = elim spans.frames [ [] ↦ false | f ∷ fs ↦ may_close_as s f.outer f.start spans.site end ]

-- the site after a span, from the one in it
abbrev pub IsOutside : Option Outer → Site → Site → Type 0
IsOutside None own new = new ≡ own
IsOutside (Some outer) own new = IsAfter outer.what own.is_marked own.is_numbered outer.site new

-- the innermost span has ended
pub record Closed (old new : Stack) : Type 0 where
  pub frame : Frame
  pub frames : old.frames ≡ frame ∷ new.frames
  pub around : new.around ≡ frame.around
  pub site : IsOutside frame.outer old.site new.site

-- the exit of the innermost span
abbrev pub exit_of : Stack → Point → List Event
exit_of spans end = elim spans.frames [ [] ↦ [] | f ∷ fs ↦ exit f.name end ∷ [] ]

-- ---- The root

-- no span is open, and any content may come
pub record AtRoot (spans : Stack) : Type 0 where
  pub frames : spans.frames ≡ []
  pub around : spans.around ≡ in_the_open
  pub initial_model : grammar_model (spans.site).initial_model ≡ any_content
  pub model : grammar_model (spans.site).model ≡ any_content
  pub line_endings : (spans.site).line_endings ≡ false
  pub in_table : (spans.site).in_table ≡ false
  pub after_break : (spans.site).after_break ≡ false
