-- The open spans that are computed from events are those that the calls lead to.
use Rattle.std.proofs.Common.{Bool, List, None, Option, Some, [], ap, false, refl, subst, sym, true, ◌++◌, ◌||◌, ◌∙◌, ◌∷◌, ◌≡◌}
use Rattle.markdown_events.specs.Forest.{enter, exit}
use Rattle.markdown_events.specs.Names.{role_of}
use Rattle.markdown_events.specs.declared.event.Event.{Event}
use Rattle.markdown_events.specs.declared.event.Name.{Name}
use Rattle.markdown_events.specs.declared.event.Point.{Point}
use Rattle.markdown_events.specs.declared.role.ItemKind.{ItemKind}
use Rattle.markdown_events.specs.declared.role.Part.{Part}
use Rattle.markdown_events.specs.declared.role.Part.TheVariants as parts
use Rattle.markdown_events.specs.declared.role.Role.{Role}
use Rattle.markdown_events.specs.declared.role.Role.TheVariants.{Significant as significant, Transparent as transparent}
use Rattle.markdown_grammar.specs.Attributes.{Place, inherited_after, inherited_in}
use Rattle.markdown_grammar.specs.Document.{Source}
use Rattle.markdown_grammar.specs.Grammar as grammar
use Rattle.markdown_grammar.specs.Grammar.{model_after, model_of}
use Rattle.markdown_grammar.specs.Items.{is_part}
use Rattle.markdown_steps.specs.Compiler.{opening}
use Rattle.markdown_acceptance.specs.Calls.{AfterToken, AtRoot, Closed, IsAfterToken, IsInside, IsOutside, Opened, may_close, may_close_as, outer_of}
use Rattle.markdown_acceptance.specs.ContentModels.{grammar_model}
use Rattle.markdown_acceptance.specs.Following.{after_event, after_events, code_model, fresh_site, no_span, open_after, set_of, site_after, site_in, site_out, span_begun, span_ended}
use Rattle.markdown_acceptance.specs.PartSets.{contains}
use Rattle.markdown_acceptance.specs.Shown.{ShowsState}
use Rattle.markdown_acceptance.specs.Sites.{IsAfter, IsEntered, IsFresh, place_of}
use Rattle.markdown_acceptance.specs.Stacks.{Stack}
use Rattle.markdown_acceptance.specs.declared.open_spans.Frame.{Frame}
use Rattle.markdown_acceptance.specs.declared.open_spans.Outer.{Outer}
use Rattle.markdown_acceptance.specs.declared.site.Site.{Site}

-- ---- Sets and content models

set-has : (stood : Part → Bool) (part : Part) → contains (set_of stood) part ≡ stood part
unfolding set_of
set-has stood parts.AutolinkEmail = refl
set-has stood parts.AutolinkProtocol = refl
set-has stood parts.CharacterReferenceMarker = refl
set-has stood parts.CharacterReferenceMarkerNumeric = refl
set-has stood parts.CharacterReferenceMarkerHexadecimal = refl
set-has stood parts.CharacterReferenceValue = refl
set-has stood parts.CodeFencedFenceInfo = refl
set-has stood parts.CodeFencedFenceMeta = refl
set-has stood parts.DefinitionDestinationString = refl
set-has stood parts.DefinitionLabelString = refl
set-has stood parts.DefinitionTitleString = refl
set-has stood parts.FootnoteDefinitionLabelString = refl
set-has stood parts.LabelText = refl
set-has stood parts.MathFlowFenceMeta = refl
set-has stood parts.ReferenceString = refl
set-has stood parts.ResourceDestinationString = refl
set-has stood parts.ResourceTitleString = refl
set-has stood parts.CodeFencedFence = refl
set-has stood parts.MathFlowFence = refl
set-has stood parts.TaskMarkChecked = refl
set-has stood parts.TaskMarkUnchecked = refl
set-has stood parts.HeadingAtxSequence = refl
set-has stood parts.HeadingSetextText = refl
set-has stood parts.HeadingSetextUnderlineSequence = refl
set-has stood parts.ListItemValue = refl
set-has stood parts.Reference = refl
set-has stood parts.Resource = refl

model-is : (h : grammar.ContentModel) → grammar_model (code_model h) ≡ h
unfolding code_model
model-is grammar.any_content = refl
model-is grammar.autolink = refl
model-is grammar.media = refl
model-is grammar.footnote_call = refl
model-is grammar.resource = refl
model-is grammar.reference = refl
model-is grammar.definition = refl
model-is grammar.character_reference = refl
model-is grammar.code_fence = refl
model-is grammar.math_fence = refl
model-is grammar.leaf = refl
model-is grammar.list_ordered = refl
model-is grammar.list_item = refl
model-is grammar.numbered_item = refl
model-is grammar.marked_item = refl
model-is grammar.marked_numbered_item = refl
model-is grammar.task_paragraph = refl
model-is grammar.marked_paragraph = refl
model-is grammar.footnote_definition = refl
model-is grammar.heading_atx = refl
model-is grammar.heading_text = refl
model-is grammar.heading_setext = refl
model-is grammar.code_fenced = refl
model-is grammar.math_flow = refl
model-is grammar.code_buffer = refl
model-is grammar.math_buffer = refl

-- ---- Sites

fresh : (h : grammar.ContentModel) (p : Place) → IsFresh h p (fresh_site h p)
unfolding fresh_site
fresh h p = record {
  initial_model = model-is h;
  model = model-is h;
  place = refl;
  after_break = refl;
  stood = λ part. set-has (λ q. false) part;
  is_marked = refl;
  is_numbered = refl;
}

inside : (role : Role) (site : Site) → IsInside role site (site_in role site)
unfolding site_in
inside (transparent k) site = refl
inside (significant what) site = fresh (model_of (grammar_model site.model) what) (inherited_in what (place_of site))

after : (what : ItemKind) (marked numbered : Bool) (site : Site) → IsAfter what marked numbered site (site_after what marked numbered site)
unfolding site_after
after what marked numbered site = record {
  initial_model = refl;
  model = model-is (model_after (grammar_model site.model) what marked);
  place = refl;
  after_break = refl;
  stood = λ part. set-has (λ q. contains site.stood q || is_part q what) part;
  is_marked = refl;
  is_numbered = refl;
}

outside : (outer : Option Outer) (own : Site) → IsOutside outer own (site_out outer own)
unfolding site_out
outside None own = refl
outside (Some outer) own = after outer.what own.is_marked own.is_numbered outer.site

-- a token gives its container neither a check mark nor a number from inside
token-site : (role : Role) (site : Site) → IsAfterToken role site (site_out (outer_of role site) (site_in role site))
unfolding site_in site_out fresh_site
token-site (transparent k) site = refl
token-site (significant what) site = after what false false site

-- ---- Open spans

pub begun-opened : (name : Name) (point : Point) (old : Stack) → Opened name point old (span_begun name point old)
unfolding span_begun
begun-opened name point old = record { frames = refl; around = refl; site = inside (role_of name) old.site }

pub ended-closed : (s : Source) (end : Point) (frames : List Frame) (old : Stack) → old.frames ≡ frames → may_close s old end ≡ true → Closed old (span_ended frames old)
unfolding span_ended
ended-closed s end [] old is may = absurd (cc (sym may ∙ ap (λ (fs : List Frame). elim fs [ [] ↦ false | f ∷ fs ↦ may_close_as s f.outer f.start old.site end ]) is))
ended-closed s end (frame ∷ frames) old is may = record { frame = frame; frames = is; around = refl; site = outside frame.outer old.site }

pub token-after : (name : Name) (start : Point) (old : Stack) → AfterToken name old (span_ended (span_begun name start old).frames (span_begun name start old))
unfolding span_begun span_ended
token-after name start old = record { frames = refl; around = refl; site = token-site (role_of name) old.site }

-- ---- Events

more-events : (es fs : List Event) (spans : Stack) → after_events (es ++ fs) spans ≡ after_events fs (after_events es spans)
unfolding after_events
more-events [] fs spans = refl
more-events (e ∷ es) fs spans = more-events es fs (after_event e.kind e.name e.point spans)

pub after-enter : (es : List Event) (name : Name) (point : Point) → Opened name point (open_after es) (open_after (es ++ enter name point ∷ []))
unfolding open_after after_events after_event
after-enter es name point = subst (Opened name point (after_events es no_span)) (sym (more-events es (enter name point ∷ []) no_span)) (begun-opened name point (after_events es no_span))

pub after-exit : (s : Source) (es : List Event) (name : Name) (point : Point) → may_close s (open_after es) point ≡ true → Closed (open_after es) (open_after (es ++ exit name point ∷ []))
unfolding open_after after_events after_event
after-exit s es name point may = subst (Closed (after_events es no_span)) (sym (more-events es (exit name point ∷ []) no_span)) (ended-closed s point (after_events es no_span).frames (after_events es no_span) refl may)

pub after-token : (es : List Event) (name : Name) (start end : Point) → AfterToken name (open_after es) (open_after (es ++ enter name start ∷ exit name end ∷ []))
unfolding open_after after_events after_event
after-token es name start end = subst (AfterToken name (after_events es no_span)) (sym (more-events es (enter name start ∷ exit name end ∷ []) no_span)) (token-after name start (after_events es no_span))

-- ---- The root

pub none-root : AtRoot (open_after [])
unfolding open_after after_events no_span fresh_site
none-root = record { frames = refl; around = refl; initial_model = model-is grammar.any_content; model = model-is grammar.any_content; line_endings = refl; in_table = refl; after_break = refl }

pub none-shows : ShowsState (open_after []) opening
unfolding open_after after_events no_span fresh_site
none-shows = record {
  frames = tt;
  around = refl;
  top = record {
    initial_model = sym (model-is grammar.any_content);
    model = sym (model-is grammar.any_content);
    place = refl;
    after_break = refl;
    stood = λ part. sym (set-has (λ q. false) part);
    mark = refl;
    value = refl;
  };
}
