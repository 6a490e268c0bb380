-- The conditions on a span where it begins and where it ends, and its container after it.
use Rattle.std.specs.Prelude.{Bool, List, false, true, not, ℕ, ◌&&◌, ◌||◌, is_some, ◌≡◌}
use Rattle.markdown_events.specs.declared.role.Part.{Part}
use Rattle.markdown_events.specs.declared.role.Part.TheVariants as parts
use Rattle.markdown_events.specs.declared.role.Content.TheVariants as contents
use Rattle.markdown_events.specs.declared.role.ItemKind.{ItemKind}
use Rattle.markdown_events.specs.declared.role.ItemKind.TheVariants.{Content as content, Part as part}
use Rattle.markdown_events.specs.declared.event.Point.{Point}
use Rattle.markdown_grammar.specs.Attributes.{Place, inherited_after, inherited_in}
use Rattle.markdown_grammar.specs.Document.{Source, byte_at}
use Rattle.markdown_grammar.specs.Grammar.{ContentModel, model_after, model_of}
use Rattle.markdown_grammar.specs.Items.{is_frontmatter, is_hard_break, is_line_ending, is_part, is_table}
use Rattle.markdown_grammar.specs.Values.{is_read}
use Rattle.markdown_acceptance.specs.ContentModels.{grammar_model}
use Rattle.markdown_acceptance.specs.PartSets.{contains}
use Rattle.markdown_acceptance.specs.Rules.{has_required, requires_nothing, takes}
use Rattle.markdown_acceptance.specs.declared.site.Site.{Site}

-- the place of the next item
abbrev pub place_of : Site → Place
place_of site = record { line_endings = site.line_endings; in_table = site.in_table; marker = site.marker }

-- ---- Conditions

-- an item may begin at a site
abbrev pub may_enter : List ℕ → Site → ItemKind → Point → Bool
may_enter bytes site what start =
    (not site.after_break || is_line_ending what)
    && (takes (grammar_model site.initial_model) (contains site.stood) what && (not (site.in_table && is_table what) && (not (is_frontmatter what) || is_some (byte_at bytes start))))

-- the container at a site may end
abbrev pub is_complete : Site → Bool
is_complete own = not own.after_break && has_required (grammar_model own.initial_model) (contains own.stood) own.is_numbered

-- an item with nothing in it may end
abbrev pub takes_empty : Site → ItemKind → Bool
takes_empty site what = requires_nothing (model_of (grammar_model site.model) what)

-- the value of an item, if it is read, can be read
abbrev pub reads : Source → Site → ItemKind → Point → Point → Bool
reads s site what start end = is_read s (grammar_model site.model) (place_of site) site.after_break what start end

-- ---- Changes

-- whether an item gives a check mark to its container, by whether one was given to it
abbrev pub gives_mark : ItemKind → Bool → Bool
gives_mark (part parts.TaskMarkChecked) inner = true
gives_mark (part parts.TaskMarkUnchecked) inner = true
gives_mark (content contents.Paragraph) inner = inner
gives_mark _ inner = false

-- whether an item gives a number to its container, by whether one was given to it
abbrev pub gives_number : ItemKind → Bool → Bool
gives_number (part parts.ListItemValue) inner = true
gives_number (content contents.ListItem) inner = inner
gives_number _ inner = false

-- a site in a container with this content model, before any item
pub record IsFresh (h : ContentModel) (p : Place) (site : Site) : Type 0 where
  pub initial_model : grammar_model site.initial_model ≡ h
  pub model : grammar_model site.model ≡ h
  pub place : place_of site ≡ p
  pub after_break : site.after_break ≡ false
  pub stood : (p : Part) → contains site.stood p ≡ false
  pub is_marked : site.is_marked ≡ false
  pub is_numbered : site.is_numbered ≡ false

-- the site in an item that begins at a site
abbrev pub IsEntered : ItemKind → Site → Site → Type 0
IsEntered what site own = IsFresh (model_of (grammar_model site.model) what) (inherited_in what (place_of site)) own

-- the site after an item; the flags say whether the item was given a check mark and a number
pub record IsAfter (what : ItemKind) (marked numbered : Bool) (site next : Site) : Type 0 where
  pub initial_model : next.initial_model ≡ site.initial_model
  pub model : grammar_model next.model ≡ model_after (grammar_model site.model) what marked
  pub place : place_of next ≡ inherited_after what (place_of site)
  pub after_break : next.after_break ≡ is_hard_break what
  pub stood : (p : Part) → contains next.stood p ≡ (contains site.stood p || is_part p what)
  pub is_marked : next.is_marked ≡ (site.is_marked || gives_mark what marked)
  pub is_numbered : next.is_numbered ≡ (site.is_numbered || gives_number what numbered)
