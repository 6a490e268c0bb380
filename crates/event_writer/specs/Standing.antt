-- The open spans at each stage. For a caller that must prove that no call is refused.
use Rattle.std.specs.Prelude.{Bool, List, None, Option, Some, [], false, is_some, true, ℕ, ◌&&◌, ◌||◌, ◌∷◌, ◌≡◌, ◌⊎◌}
use Rattle.std.specs.List.{list_any}
use Rattle.std.specs.Option.{option_or}
use Rattle.markdown_events.specs.Names.{role_of}
use Rattle.markdown_events.specs.Slices.{slice}
use Rattle.markdown_events.specs.declared.around.Around.{Around}
use Rattle.markdown_events.specs.declared.event.Point.{Point}
use Rattle.markdown_events.specs.declared.role.Content.{Content}
use Rattle.markdown_events.specs.declared.role.Content.TheVariants as contents
use Rattle.markdown_events.specs.declared.role.ItemKind.{ItemKind}
use Rattle.markdown_events.specs.declared.role.ItemKind.TheVariants.{Content as content, Part as part}
use Rattle.markdown_events.specs.declared.role.Part.{Part}
use Rattle.markdown_events.specs.declared.role.Part.TheVariants as parts
use Rattle.markdown_events.specs.declared.role.Role.{Role}
use Rattle.markdown_events.specs.declared.role.Role.TheVariants.{Significant as significant, Transparent as transparent}
use Rattle.markdown_events.specs.declared.role.TransparentKind.TheVariants as transparents
use Rattle.markdown_grammar.specs.Document.{Source, byte_at, is_depth, is_item_number, length_between, text_read}
use Rattle.markdown_grammar.specs.Grammar.{ContentModel, markers, model_after, model_of}
use Rattle.markdown_grammar.specs.Grammar as grammar
use Rattle.markdown_grammar.specs.Items.{is_part, is_table, marker_of}
use Rattle.markdown_acceptance.specs.ContentModels.{grammar_model}
use Rattle.markdown_acceptance.specs.PartSets.{contains}
use Rattle.markdown_acceptance.specs.Rules.{has_required, takes}
use Rattle.markdown_acceptance.specs.Sites.{gives_number}
use Rattle.markdown_acceptance.specs.Stacks.{Stack}
use Rattle.markdown_acceptance.specs.declared.open_spans.Frame.{Frame}
use Rattle.markdown_acceptance.specs.declared.open_spans.Outer.{Outer}
use Rattle.markdown_acceptance.specs.declared.site.Site.{Site}
use Rattle.event_writer.specs.Stages.{Enclosing, Stage, autolink, character_reference, character_reference_value, code_fence, code_fence_meta, code_fenced, code_lines, definition, definition_destination, definition_title, delimiter_row, delimiter_value, endings, entered, flow, footnote_call, footnote_definition, heading_atx, heading_setext, heading_setext_underline, inlines, is_in_row, is_in_value, item, item_number, list_numbered, list_ordered, list_unordered, math_fence, math_flow, math_lines, media, media_target, nothing, reference, resource, resource_title, task}

-- ---- The container at a site

-- a container: its content model at first and now, the parts so far, whether it has a number, whether a table is around,
-- and the last marker
pub record Ground : Type 0 where
  pub initial_model : ContentModel
  pub model : ContentModel
  pub stood : Part → Bool
  pub is_numbered : Bool
  pub in_table : Bool
  pub marker : Option ℕ

-- the container at a site
abbrev pub ground_of : Site → Ground
ground_of site = record { initial_model = grammar_model site.initial_model; model = grammar_model site.model; stood = contains site.stood; is_numbered = site.is_numbered; in_table = site.in_table; marker = site.marker }

-- an item that begins in this container, as a container
abbrev pub ground_in : ItemKind → Ground → Ground
ground_in what g =
    record { initial_model = model_of g.model what; model = model_of g.model what; stood = λ p. false; is_numbered = false; in_table = g.in_table || is_table what; marker = None }

-- the same container after an item; the flags say whether the item was given a check mark and a number
abbrev pub ground_after : ItemKind → Bool → Bool → Ground → Ground
ground_after what marked numbered g = record {
  initial_model = g.initial_model;
  model = model_after g.model what marked;
  stood = λ p. g.stood p || is_part p what;
  is_numbered = g.is_numbered || gives_number what numbered;
  in_table = g.in_table;
  marker = option_or (marker_of what) g.marker;
}

-- ---- The container at a stage

-- any content may come
abbrev pub TakesContent : Ground → Type 0
TakesContent g = (c : Content) → takes g.initial_model g.stood (content c) ≡ true

-- it has what its content model requires
abbrev pub IsWhole : Ground → Type 0
IsWhole g = has_required g.initial_model g.stood g.is_numbered ≡ true

-- it has this content model, at first and now
abbrev pub IsOf : ContentModel → Ground → Type 0
IsOf h g = (g.initial_model ≡ h) × (g.model ≡ h)

-- blocks may come, outside tables; the flag says that there has been a number
pub record TakesBlocks (n : Bool) (g : Ground) : Type 0 where
  pub content : TakesContent g
  pub whole : IsWhole g
  pub in_table : g.in_table ≡ false
  pub numbered : n ≡ true → g.is_numbered ≡ true

-- a closing sequence of a heading may come
pub record IsInHeading (g : Ground) : Type 0 where
  pub initial_model : g.initial_model ≡ grammar.heading_atx
  pub model : g.model ≡ grammar.heading_text
  pub stood : g.stood parts.HeadingAtxSequence ≡ true

-- a container fits a stage
abbrev pub Fits : Stage → Ground → Type 0
Fits (flow n) g = TakesBlocks n g
Fits (item n) g = TakesBlocks n g × ((g.model ≡ grammar.list_item) ⊎ (g.model ≡ grammar.numbered_item))
Fits (inlines h) g = TakesContent g × IsWhole g × (h ≡ true → IsInHeading g)
Fits task g = IsOf grammar.task_paragraph g × (g.stood parts.TaskMarkChecked ≡ false) × (g.stood parts.TaskMarkUnchecked ≡ false)
Fits endings g = (takes g.initial_model g.stood (content contents.LineEnding) ≡ true) × IsWhole g
Fits nothing g = IsWhole g
Fits list_unordered g = IsOf grammar.any_content g × (g.in_table ≡ false)
Fits list_ordered g = IsOf grammar.list_ordered g × (g.in_table ≡ false)
Fits list_numbered g = IsOf grammar.list_ordered g × (g.in_table ≡ false) × (g.is_numbered ≡ true)
Fits item_number g = IsOf grammar.numbered_item g × (g.in_table ≡ false) × (g.stood parts.ListItemValue ≡ false)
Fits footnote_definition g = IsOf grammar.footnote_definition g × (g.in_table ≡ false) × (g.stood parts.FootnoteDefinitionLabelString ≡ false)
Fits heading_atx g = IsOf grammar.heading_atx g
Fits heading_setext g = IsOf grammar.heading_setext g × (g.stood parts.HeadingSetextText ≡ false) × (g.stood parts.HeadingSetextUnderlineSequence ≡ false)
Fits heading_setext_underline g = IsOf grammar.heading_setext g × (g.stood parts.HeadingSetextUnderlineSequence ≡ false)
Fits code_fenced g = IsOf grammar.code_fenced g
Fits code_lines g = (g.initial_model ≡ grammar.code_fenced) × (g.model ≡ grammar.code_buffer) × (g.stood parts.CodeFencedFence ≡ true)
Fits math_flow g = IsOf grammar.math_flow g
Fits math_lines g = (g.initial_model ≡ grammar.math_flow) × (g.model ≡ grammar.math_buffer) × (g.stood parts.MathFlowFence ≡ true)
Fits code_fence g = IsOf grammar.code_fence g × (g.stood parts.CodeFencedFenceInfo ≡ false) × (g.stood parts.CodeFencedFenceMeta ≡ false)
Fits code_fence_meta g = IsOf grammar.code_fence g × (g.stood parts.CodeFencedFenceMeta ≡ false)
Fits math_fence g = IsOf grammar.math_fence g × (g.stood parts.MathFlowFenceMeta ≡ false)
Fits definition g = IsOf grammar.definition g × (g.stood parts.DefinitionLabelString ≡ false) × (g.stood parts.DefinitionDestinationString ≡ false) × (g.stood parts.DefinitionTitleString ≡ false)
Fits definition_destination g = IsOf grammar.definition g × (g.stood parts.DefinitionDestinationString ≡ false) × (g.stood parts.DefinitionTitleString ≡ false)
Fits definition_title g = IsOf grammar.definition g × (g.stood parts.DefinitionTitleString ≡ false)
Fits delimiter_row g = Unit {0}
Fits delimiter_value g = Unit {0}
Fits media g = IsOf grammar.media g × (g.stood parts.LabelText ≡ false) × (g.stood parts.Resource ≡ false) × (g.stood parts.Reference ≡ false)
Fits media_target g = IsOf grammar.media g × (g.stood parts.Resource ≡ false) × (g.stood parts.Reference ≡ false)
Fits resource g = IsOf grammar.resource g × (g.stood parts.ResourceDestinationString ≡ false) × (g.stood parts.ResourceTitleString ≡ false)
Fits resource_title g = IsOf grammar.resource g × (g.stood parts.ResourceTitleString ≡ false)
Fits reference g = IsOf grammar.reference g × (g.stood parts.ReferenceString ≡ false)
Fits footnote_call g = IsOf grammar.footnote_call g × (g.stood parts.LabelText ≡ false)
Fits autolink g = IsOf grammar.autolink g × (g.stood parts.AutolinkEmail ≡ false) × (g.stood parts.AutolinkProtocol ≡ false)
Fits character_reference g = IsOf grammar.character_reference g × (g.stood parts.CharacterReferenceValue ≡ false)
Fits (character_reference_value m) g = IsOf grammar.character_reference g × (g.stood parts.CharacterReferenceValue ≡ false) × (list_any g.stood markers ≡ true) × (g.marker ≡ Some m)

-- a site is at a stage
abbrev pub ShowsStage : Stage → Site → Type 0
ShowsStage a site = Fits a (ground_of site)

-- ---- The open spans at a stage

-- the surroundings of the next span
abbrev pub around_at : Stage → Around
around_at a = record { in_sealed = false; in_row = is_in_row a; in_value = is_in_value a }

-- the outer site that is kept for a span that began at a stage
abbrev pub ShowsOuter : Role → Stage → Option Outer → Type 0
ShowsOuter (transparent k) a outer = outer ≡ None
ShowsOuter (significant what) a outer = (site : Site) × (outer ≡ Some (record { what = what; site = site })) × ShowsStage a site × (site.after_break ≡ false)

-- an open span: its name, its start and its surroundings
pub record ShowsFrame (from : Point → Type 0) (e : Enclosing) (frame : Frame) : Type 0 where
  pub name : frame.name ≡ e.name
  pub start : from frame.start
  pub around : frame.around ≡ around_at e.stage
  pub outer : ShowsOuter (role_of e.name) e.stage frame.outer
  pub may_begin : is_some (entered e.stage (role_of e.name)) ≡ true

-- the open spans, the innermost first
abbrev pub ShowsFrames : (Point → Type 0) → List Enclosing → List Frame → Type 0
ShowsFrames from [] [] = Unit {0}
ShowsFrames from (e ∷ es) (frame ∷ frames) = ShowsFrame from e frame × ShowsFrames from es frames
ShowsFrames from _ _ = ⊥

-- the container around a delimiter row fits the stage at which the row began; `rest` says so for the spans further out
abbrev pub WaitsAs : Role → Stage → Ground → Type 0 → Type 0
WaitsAs (transparent transparents.DelimiterRow) a g rest = Fits a g × (is_in_row a ≡ false)
WaitsAs (transparent _) a g rest = rest
WaitsAs (significant _) a g rest = ⊥

abbrev pub Waits : Ground → List Enclosing → Type 0
Waits g [] = ⊥
Waits g (e ∷ es) = WaitsAs (role_of e.name) e.stage g (Waits g es)

-- the open spans are at a stage inside the outer ones, the innermost first; `waiting` says whether a hard break is pending
pub record StandsAt (waiting : Bool) (from : Point → Type 0) (spans : Stack) (a : Stage) (outer : List Enclosing) : Type 0 where
  pub around : spans.around ≡ around_at a
  pub stage : ShowsStage a spans.site
  pub after_break : (spans.site).after_break ≡ waiting
  pub frames : ShowsFrames from outer spans.frames
  pub waits : is_in_row a ≡ true → Waits (ground_of spans.site) outer

-- no break is pending
abbrev pub Shows : (Point → Type 0) → Stack → Stage → List Enclosing → Type 0
Shows from spans a outer = StandsAt false from spans a outer

-- a break is pending
abbrev pub ShowsBreak : (Point → Type 0) → Stack → Stage → List Enclosing → Type 0
ShowsBreak from spans a outer = StandsAt true from spans a outer

-- ---- Reading a token

-- the opening sequence of a heading has one to six bytes
abbrev pub are_signs : Source → Stage → Point → Point → Bool
are_signs s (inlines _) start end = true
are_signs s _ start end = is_depth (length_between s.bytes start end)

-- the decoder knows the value of a character reference, given its last marker
abbrev pub is_decoded : Source → Stage → Point → Point → Bool
is_decoded s (character_reference_value m) start end = is_some (slice s.bytes start end) && is_some (s.text (text_read s start end) m)
is_decoded s _ start end = true

-- whatever is read of a token at a stage can be read
abbrev pub is_readable : Source → Stage → Role → Point → Point → Bool
is_readable s a (significant (content contents.Data)) start end = is_some (slice s.bytes start end)
is_readable s a (significant (content contents.AutolinkLiteralEmail)) start end = is_some (slice s.bytes start end)
is_readable s a (significant (content contents.AutolinkLiteralWww)) start end = is_some (slice s.bytes start end)
is_readable s a (significant (content contents.AutolinkLiteralWhole)) start end = is_some (slice s.bytes start end)
is_readable s a (significant (content contents.LineEnding)) start end = is_some (slice s.bytes start end)
is_readable s a (significant (part parts.AutolinkEmail)) start end = is_some (slice s.bytes start end)
is_readable s a (significant (part parts.AutolinkProtocol)) start end = is_some (slice s.bytes start end)
is_readable s a (significant (part parts.LabelText)) start end = is_some (slice s.bytes start end)
is_readable s a (significant (part parts.ReferenceString)) start end = is_some (slice s.bytes start end)
is_readable s a (significant (part parts.DefinitionLabelString)) start end = is_some (slice s.bytes start end)
is_readable s a (significant (part parts.FootnoteDefinitionLabelString)) start end = is_some (slice s.bytes start end)
is_readable s a (significant (part parts.ListItemValue)) start end = is_item_number (slice s.bytes start end)
is_readable s a (significant (part parts.HeadingAtxSequence)) start end = are_signs s a start end
is_readable s a (significant (part parts.HeadingSetextUnderlineSequence)) start end = is_some (byte_at s.bytes start)
is_readable s a (significant (part parts.CharacterReferenceValue)) start end = is_decoded s a start end
is_readable s a _ start end = true
