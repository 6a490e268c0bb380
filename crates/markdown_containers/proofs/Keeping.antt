-- What the containers of the program keep, after items that give them nothing.
use Rattle.std.proofs.Common.{◌≡◌, ℕ, Bool, true, false, Option, None, Some, refl, sym, ap, ◌∙◌}
use Rattle.std.specs.Prelude.{is_some}
use Rattle.std.specs.Option.{option_or}
use Rattle.markdown_nodes.specs.Tree.{Trees, nothing}
use Rattle.markdown_events.specs.declared.event.Point.{Point}
use Rattle.markdown_events.specs.declared.role.ItemKind.TheVariants.{Content as content}
use Rattle.markdown_events.specs.declared.role.Content.{Content}
use Rattle.markdown_events.specs.declared.role.Content.TheVariants as contents
use Rattle.markdown_events.specs.declared.role.Part.{Part}
use Rattle.markdown_events.specs.declared.role.Part.TheVariants as parts
use Rattle.markdown_containers.specs.declared.container.Container.{Container}
use Rattle.markdown_containers.specs.declared.container.Container.TheVariants as containers
use Rattle.markdown_inlines.specs.declared.media.Target.{Target}
use Rattle.markdown_inlines.specs.declared.media.Target.TheVariants as targets
use Rattle.markdown_steps.specs.Compiler.{label_with, part_with}
use Rattle.markdown_grammar.specs.Attributes.{mark_given, value_given}
use Rattle.markdown_grammar.specs.Grammar.{ContentModel, any_content, model_after, list_item, numbered_item}
use Rattle.markdown_containers.specs.Containers.{Keeps, current_model_of, is_model_of, label_of, mark_of, part_of, summary_with, value_of}
use Rattle.markdown_blocks.specs.Fences.{fence_of, in_code_fence, in_math_fence}
use Rattle.markdown_inlines.specs.Labels.{label_kept, label_nodes}
use Rattle.markdown_inlines.specs.Media.{reference_of, resource_of}
use Rattle.markdown_parts.specs.PartsSoFar.{ending}
use Rattle.markdown_steps.specs.Summaries.{Summary, PartSummary, PartPath, into, itself, path_to}
use Rattle.markdown_grammar.specs.Attributes.{Place}
use Rattle.markdown_grammar.specs.Document.{Source}

-- nothing stands below a part that is not there
below_ending : (k : Option PartSummary) (way : PartPath) → k ≡ None → ending k way ≡ None
below_ending k itself h = h
below_ending k (into p way) h = refl

below_resource : (t : Target) (way : PartPath) → resource_of t itself ≡ None → resource_of t way ≡ None
below_resource (targets.Resource r) way h = let z : ⊥ = cc in absurd z
below_resource targets.Label way h = refl
below_resource (targets.Reference r) way h = refl

below_reference : (t : Target) (way : PartPath) → reference_of t itself ≡ None → reference_of t way ≡ None
below_reference (targets.Reference r) way h = let z : ⊥ = cc in absurd z
below_reference targets.Label way h = refl
below_reference (targets.Resource r) way h = refl

below_fence : {A : Type 0} (inside : A → PartPath → Option PartSummary) (f : Option A) (way : PartPath) → fence_of inside f itself ≡ None → fence_of inside f way ≡ None
below_fence inside None way h = refl
below_fence inside (Some f) way h = let z : ⊥ = cc in absurd z

pub below_none : (h : Container) (q : Part) (way : PartPath) → part_of h (path_to q) ≡ None → part_of h (into q way) ≡ None
below_none (containers.Autolink x) parts.AutolinkEmail way none = below_ending _ way none
below_none (containers.Autolink x) parts.AutolinkProtocol way none = below_ending _ way none
below_none (containers.Media x) parts.LabelText way none = below_ending _ way none
below_none (containers.Media x) parts.Resource way none = below_resource x.target way none
below_none (containers.Media x) parts.Reference way none = below_reference x.target way none
below_none (containers.FootnoteCall x) parts.LabelText way none = below_ending _ way none
below_none (containers.Resource x) parts.ResourceDestinationString way none = below_ending _ way none
below_none (containers.Resource x) parts.ResourceTitleString way none = below_ending _ way none
below_none (containers.Reference x) parts.ReferenceString way none = below_ending _ way none
below_none (containers.Definition x) parts.DefinitionLabelString way none = below_ending _ way none
below_none (containers.Definition x) parts.DefinitionDestinationString way none = below_ending _ way none
below_none (containers.Definition x) parts.DefinitionTitleString way none = below_ending _ way none
below_none (containers.CharacterReference x) parts.CharacterReferenceMarker way none = below_ending _ way none
below_none (containers.CharacterReference x) parts.CharacterReferenceMarkerNumeric way none = below_ending _ way none
below_none (containers.CharacterReference x) parts.CharacterReferenceMarkerHexadecimal way none = below_ending _ way none
below_none (containers.CharacterReference x) parts.CharacterReferenceValue way none = below_ending _ way none
below_none (containers.CodeFence x) parts.CodeFencedFenceInfo way none = below_ending _ way none
below_none (containers.CodeFence x) parts.CodeFencedFenceMeta way none = below_ending _ way none
below_none (containers.MathFence x) parts.MathFlowFenceMeta way none = below_ending _ way none
below_none (containers.NumberedItem x) parts.ListItemValue way none = below_ending _ way none
below_none (containers.TaskParagraph x) parts.TaskMarkChecked way none = below_ending _ way none
below_none (containers.TaskParagraph x) parts.TaskMarkUnchecked way none = below_ending _ way none
below_none (containers.FootnoteDefinition x) parts.FootnoteDefinitionLabelString way none = below_ending _ way none
below_none (containers.HeadingAtx x) parts.HeadingAtxSequence way none = below_ending _ way none
below_none (containers.HeadingSetext x) parts.HeadingSetextUnderlineSequence way none = below_ending _ way none
below_none (containers.HeadingSetext x) parts.HeadingSetextText way none = below_ending _ way none
below_none (containers.CodeFenced x) parts.CodeFencedFence way none = below_fence in_code_fence x.fence way none
below_none (containers.MathFlow x) parts.MathFlowFence way none = below_fence in_math_fence x.fence way none
below_none h q way none = refl

-- no part is the whole
pub itself_none : (h : Container) → part_of h itself ≡ None
itself_none (containers.Resource x) = refl
itself_none h = refl

-- content leaves the parts as they are
same_below : (old : Option PartSummary) (kept : Option PartSummary) → (old ≡ None → kept ≡ None) → kept ≡ elim old [ Some k ↦ kept | None ↦ None ]
same_below (Some k) kept below = refl
same_below None kept below = below refl

content_parts : (s : Source) (p : Place) (c : Content) (a b : Point) (i : Summary) (h : Container) (way : PartPath) → part_of h way ≡ part_with s p (content c) a b i (part_of h) way
content_parts s p c a b i h itself = itself_none h
content_parts s p c a b i h (into q way) = same_below (part_of h (path_to q)) (part_of h (into q way)) (below_none h q way)

no_label : (h : Container) → part_of h (path_to parts.LabelText) ≡ None → label_of h ≡ nothing
no_label (containers.Media x) none = no_label_nodes x.label none
  where
    no_label_nodes : (l : _) → label_kept l ≡ None → label_nodes l ≡ nothing
    no_label_nodes None h = refl
    no_label_nodes (Some l) h = let z : ⊥ = cc in absurd z
no_label (containers.FootnoteCall x) none = no_label_nodes x.label none
  where
    no_label_nodes : (l : _) → label_kept l ≡ None → label_nodes l ≡ nothing
    no_label_nodes None h = refl
    no_label_nodes (Some l) h = let z : ⊥ = cc in absurd z
no_label h none = refl

same_label : (old : Option PartSummary) (nodes ts : Trees) → (old ≡ None → nodes ≡ nothing) → (c : Content) → nodes ≡ label_with (content c) ts old nodes
same_label (Some k) nodes ts below c = refl
same_label None nodes ts below c = below refl

after_content : (h : ContentModel) (c : Content) (m : Bool) → (c ≡ contents.Paragraph → ⊥) → model_after h (content c) m ≡ h
after_content h contents.Paragraph m other = absurd (other refl)
after_content list_item c m other = refl
after_content numbered_item c m other = refl
after_content h c m other = refl

or_none : {A : Type 0} (x : Option A) → option_or x None ≡ x
or_none None = refl
or_none (Some x) = refl

no_mark : (c : Content) (m : Option Bool) → (c ≡ contents.Paragraph → ⊥) → mark_given (content c) m ≡ None
no_mark contents.Paragraph m other = absurd (other refl)
no_mark c m other = refl

no_value : (s : Source) (c : Content) (a b : Point) (v : Option ℕ) → (c ≡ contents.ListItem → ⊥) → value_given s (content c) a b v ≡ None
no_value s contents.ListItem a b v other = absurd (other refl)
no_value s c a b v other = refl

-- content of which nothing but nodes is kept gives its container nothing else
unmarked_after : (h : ContentModel) (c : Content) → model_after h (content c) false ≡ h
unmarked_after list_item contents.Paragraph = refl
unmarked_after numbered_item contents.Paragraph = refl
unmarked_after h c = refl

no_mark_given : (c : Content) → mark_given (content c) None ≡ None
no_mark_given contents.Paragraph = refl
no_mark_given c = refl

nodes_value : (s : Source) (c : Content) (a b : Point) → is_model_of c any_content ≡ true → value_given s (content c) a b None ≡ None
nodes_value s contents.ListItem a b such = let z : ⊥ = cc in absurd z
nodes_value s c a b such = refl

pub nodes_keep : (s : Source) (p : Place) (c : Content) (a b : Point) (ts : Trees) (h : Container) → is_model_of c any_content ≡ true → Keeps s p (content c) a b (summary_with containers.AnyContent ts) h h
nodes_keep s p c a b ts h such = record {
  initial_model = refl;
  current_model = sym (unmarked_after (current_model_of h) c);
  marker = refl;
  kept = content_parts s p c a b (summary_with containers.AnyContent ts) h;
  label = same_label (part_of h (path_to parts.LabelText)) (label_of h) ts (no_label h) c;
  mark = sym (ap (option_or (mark_of h)) (no_mark_given c) ∙ or_none (mark_of h));
  value = sym (ap (option_or (value_of h)) (nodes_value s c a b such) ∙ or_none (value_of h));
}

-- content that is no paragraph and no item gives its container nothing but nodes
pub content_keeps : (s : Source) (p : Place) (c : Content) (a b : Point) (i : Summary) (h : Container) → (c ≡ contents.Paragraph → ⊥) → (c ≡ contents.ListItem → ⊥) → Keeps s p (content c) a b i h h
content_keeps s p c a b i h no_paragraph no_item = record {
  initial_model = refl;
  current_model = sym (after_content (current_model_of h) c (is_some i.mark) no_paragraph);
  marker = refl;
  kept = content_parts s p c a b i h;
  label = same_label (part_of h (path_to parts.LabelText)) (label_of h) i.nodes (no_label h) c;
  mark = sym (ap (option_or (mark_of h)) (no_mark c i.mark no_paragraph) ∙ or_none (mark_of h));
  value = sym (ap (option_or (value_of h)) (no_value s c a b i.value no_item) ∙ or_none (value_of h));
}
