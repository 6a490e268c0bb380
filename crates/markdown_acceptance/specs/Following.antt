-- The open spans after some events, as a value that is computed from these alone.
use Rattle.std.specs.Prelude.{Bool, List, None, Option, Some, [], false, ◌||◌, ◌∷◌}
use Rattle.markdown_events.specs.Around.{in_the_open, under}
use Rattle.markdown_events.specs.Names.{role_of}
use Rattle.markdown_events.specs.declared.event.Event.{Event}
use Rattle.markdown_events.specs.declared.event.Kind.{Kind}
use Rattle.markdown_events.specs.declared.event.Kind.TheVariants.{Enter, Exit}
use Rattle.markdown_events.specs.declared.event.Name.{Name}
use Rattle.markdown_events.specs.declared.event.Point.{Point}
use Rattle.markdown_events.specs.declared.role.ItemKind.{ItemKind}
use Rattle.markdown_events.specs.declared.role.Part.{Part}
use Rattle.markdown_events.specs.declared.role.Part.TheVariants as parts
use Rattle.markdown_events.specs.declared.role.Role.{Role}
use Rattle.markdown_events.specs.declared.role.Role.TheVariants.{Significant as significant, Transparent as transparent}
use Rattle.markdown_grammar.specs.Attributes.{Place, inherited_after, inherited_at_root, inherited_in}
use Rattle.markdown_grammar.specs.Grammar as grammar
use Rattle.markdown_grammar.specs.Grammar.{model_after, model_of}
use Rattle.markdown_grammar.specs.Items.{is_hard_break, is_part}
use Rattle.markdown_acceptance.specs.Calls.{outer_of}
use Rattle.markdown_acceptance.specs.ContentModels.{grammar_model}
use Rattle.markdown_acceptance.specs.PartSets.{contains}
use Rattle.markdown_acceptance.specs.Sites.{gives_mark, gives_number, place_of}
use Rattle.markdown_acceptance.specs.Stacks.{Stack}
use Rattle.markdown_acceptance.specs.declared.content_model.ContentModel.{ContentModel}
use Rattle.markdown_acceptance.specs.declared.content_model.ContentModel.TheVariants as models
use Rattle.markdown_acceptance.specs.declared.open_spans.Frame.{Frame}
use Rattle.markdown_acceptance.specs.declared.open_spans.Outer.{Outer}
use Rattle.markdown_acceptance.specs.declared.part_set.PartSet.{PartSet}
use Rattle.markdown_acceptance.specs.declared.site.Site.{Site}

-- the set of the parts that pass a test
unfoldable pub set_of : (Part → Bool) → PartSet
set_of stood = record {
  members =
      stood parts.AutolinkEmail ∷
      stood parts.AutolinkProtocol ∷
      stood parts.CharacterReferenceMarker ∷
      stood parts.CharacterReferenceMarkerNumeric ∷
      stood parts.CharacterReferenceMarkerHexadecimal ∷
      stood parts.CharacterReferenceValue ∷
      stood parts.CodeFencedFenceInfo ∷
      stood parts.CodeFencedFenceMeta ∷
      stood parts.DefinitionDestinationString ∷
      stood parts.DefinitionLabelString ∷
      stood parts.DefinitionTitleString ∷
      stood parts.FootnoteDefinitionLabelString ∷
      stood parts.LabelText ∷
      stood parts.MathFlowFenceMeta ∷
      stood parts.ReferenceString ∷
      stood parts.ResourceDestinationString ∷
      stood parts.ResourceTitleString ∷
      stood parts.CodeFencedFence ∷
      stood parts.MathFlowFence ∷
      stood parts.TaskMarkChecked ∷
      stood parts.TaskMarkUnchecked ∷
      stood parts.HeadingAtxSequence ∷
      stood parts.HeadingSetextText ∷
      stood parts.HeadingSetextUnderlineSequence ∷
      stood parts.ListItemValue ∷
      stood parts.Reference ∷
      stood parts.Resource ∷
      [];
}

-- a content model of the grammar, as one of the code
unfoldable pub code_model : grammar.ContentModel → ContentModel
code_model grammar.any_content = models.AnyContent
code_model grammar.autolink = models.Autolink
code_model grammar.media = models.Media
code_model grammar.footnote_call = models.FootnoteCall
code_model grammar.resource = models.Resource
code_model grammar.reference = models.Reference
code_model grammar.definition = models.Definition
code_model grammar.character_reference = models.CharacterReference
code_model grammar.code_fence = models.CodeFence
code_model grammar.math_fence = models.MathFence
code_model grammar.leaf = models.Leaf
code_model grammar.list_ordered = models.ListOrdered
code_model grammar.list_item = models.ListItem
code_model grammar.numbered_item = models.NumberedItem
code_model grammar.marked_item = models.MarkedItem
code_model grammar.marked_numbered_item = models.MarkedNumberedItem
code_model grammar.task_paragraph = models.TaskParagraph
code_model grammar.marked_paragraph = models.MarkedParagraph
code_model grammar.footnote_definition = models.FootnoteDefinition
code_model grammar.heading_atx = models.HeadingAtx
code_model grammar.heading_text = models.HeadingText
code_model grammar.heading_setext = models.HeadingSetext
code_model grammar.code_fenced = models.CodeFenced
code_model grammar.math_flow = models.MathFlow
code_model grammar.code_buffer = models.CodeBuffer
code_model grammar.math_buffer = models.MathBuffer

-- ---- Sites

-- the site in a container, before any item
unfoldable pub fresh_site : grammar.ContentModel → Place → Site
fresh_site h p = record {
  initial_model = code_model h;
  model = code_model h;
  line_endings = p.line_endings;
  in_table = p.in_table;
  marker = p.marker;
  after_break = false;
  stood = set_of (λ part. false);
  is_marked = false;
  is_numbered = false;
}

-- the site in a span that begins at a site
unfoldable pub site_in : Role → Site → Site
site_in (transparent k) site = site
site_in (significant what) site = fresh_site (model_of (grammar_model site.model) what) (inherited_in what (place_of site))

-- the site after an item; the flags say whether the item was given a check mark and a number
unfoldable pub site_after : ItemKind → Bool → Bool → Site → Site
site_after what marked numbered site = record {
  initial_model = site.initial_model;
  model = code_model (model_after (grammar_model site.model) what marked);
  line_endings = (inherited_after what (place_of site)).line_endings;
  in_table = (inherited_after what (place_of site)).in_table;
  marker = (inherited_after what (place_of site)).marker;
  after_break = is_hard_break what;
  stood = set_of (λ part. contains site.stood part || is_part part what);
  is_marked = site.is_marked || gives_mark what marked;
  is_numbered = site.is_numbered || gives_number what numbered;
}

-- the site after a span, from the one in it
unfoldable pub site_out : Option Outer → Site → Site
site_out None own = own
site_out (Some outer) own = site_after outer.what own.is_marked own.is_numbered outer.site

-- ---- Open spans

-- no span is open, before the first event
unfoldable pub no_span : Stack
no_span = record { frames = []; around = in_the_open; site = fresh_site grammar.any_content inherited_at_root }

-- after an enter
unfoldable pub span_begun : Name → Point → Stack → Stack
span_begun name point spans = record {
  frames = record { name = name; start = point; around = spans.around; outer = outer_of (role_of name) spans.site } ∷ spans.frames;
  around = under spans.around (role_of name);
  site = site_in (role_of name) spans.site;
}

-- after an exit; if no span is open, nothing changes
unfoldable pub span_ended : List Frame → Stack → Stack
span_ended [] spans = spans
span_ended (frame ∷ frames) spans = record { frames = frames; around = frame.around; site = site_out frame.outer spans.site }

-- after an event
unfoldable pub after_event : Kind → Name → Point → Stack → Stack
after_event Enter name point spans = span_begun name point spans
after_event Exit name point spans = span_ended spans.frames spans

-- after events
unfoldable pub after_events : List Event → Stack → Stack
after_events [] spans = spans
after_events (event ∷ events) spans = after_events events (after_event event.kind event.name event.point spans)

-- the open spans after the events of a document so far
unfoldable pub open_after : List Event → Stack
open_after events = after_events events no_span
