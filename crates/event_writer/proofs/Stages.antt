-- What may stand in a container at a stage, and the stage after it.
use Rattle.std.proofs.Common.{◌≡◌, ◌&&◌, ◌||◌, ◌∙◌, ◌⊎◌, Bool, IfSome, None, OnSome, false, inl, inr, is_some, refl, true}
use Rattle.markdown_events.specs.declared.role.Content.{Content}
use Rattle.markdown_events.specs.declared.role.Content.TheVariants as contents
use Rattle.markdown_events.specs.declared.role.ItemKind.{ItemKind}
use Rattle.markdown_events.specs.declared.role.ItemKind.TheVariants.{Content as content, Part as part}
use Rattle.markdown_events.specs.declared.role.Part.{Part}
use Rattle.markdown_events.specs.declared.role.Part.TheVariants as parts
use Rattle.markdown_events.specs.declared.role.Role.TheVariants.{Significant as significant}
use Rattle.markdown_grammar.specs.Grammar.{ContentModel, content_model, model_after, part_model}
use Rattle.markdown_grammar.specs.Grammar as grammar
use Rattle.markdown_grammar.specs.Items.{is_table}
use Rattle.markdown_acceptance.specs.Rules.{has_required, takes}
use Rattle.markdown_acceptance.specs.Sites.{gives_number}
use Rattle.event_writer.specs.Stages.{Stage, after_content, after_part, autolink, character_reference, character_reference_value, code_fence, code_fence_meta, code_fenced, code_lines, definition, definition_destination, definition_title, delimiter_row, delimiter_value, endings, entered, flow, footnote_call, footnote_definition, heading_atx, heading_setext, heading_setext_underline, in_block, in_content, in_inline, in_part, inlines, is_in_row, is_in_value, item, item_number, list_numbered, list_ordered, list_unordered, math_fence, math_flow, math_lines, may_end, media, media_target, nothing, reference, resource, resource_title, skips, takes_inlines, takes_line_endings, task}
use Rattle.event_writer.specs.Standing.{Fits, Ground, IsInHeading, IsOf, IsWhole, TakesBlocks, TakesContent, ground_after, ground_in}
use Rattle.event_writer.proofs.Models.{and_false, at_model, no, or_false, or_true, takes_code_content, takes_code_fence, takes_hexadecimal, takes_marker, takes_math_content, takes_math_fence, takes_media_ending, takes_media_label, takes_media_reference, takes_media_resource, takes_numeric, takes_paragraph, takes_setext_ending, takes_setext_text, takes_underline, takes_value, whole_more, whole_paragraph}

-- ---- Items that begin

-- content that is written as a token alone
abbrev pub is_leaf : ItemKind → Bool
is_leaf (content contents.Data) = true
is_leaf (content contents.AutolinkLiteralEmail) = true
is_leaf (content contents.AutolinkLiteralWww) = true
is_leaf (content contents.AutolinkLiteralWhole) = true
is_leaf (content contents.HardBreak) = true
is_leaf (content contents.LineEnding) = true
is_leaf _ = false

-- an item may begin, and the stage in it is true of its container
pub record Enters (what : ItemKind) (g : Ground) (b : Stage) : Type 0 where
  pub stands : takes g.initial_model g.stood what ≡ true
  pub table : (g.in_table && is_table what) ≡ false
  pub leaf : is_leaf what ≡ false
  pub row : is_in_row b ≡ false
  pub value : is_in_value b ≡ false
  pub inside : Fits b (ground_in what g)

-- any content stands in an item that takes any
any_inside : (c : Content) (g : Ground) → content_model g.model c ≡ grammar.any_content → Fits (inlines false) (ground_in (content c) g)
any_inside c g e = (λ d. λ i. takes (e i) (λ p. false) (content d), λ i. has_required (e i) (λ p. false) false, λ h. no h)

block_in : (c : Content) (g : Ground) → TakesContent g → g.in_table ≡ false → IfSome (in_block c) (Enters (content c) g)
block_in contents.BlockQuote g t e = record { stands = t contents.BlockQuote; table = λ i. e i && false; leaf = refl; row = refl; value = refl; inside = record { content = λ c. refl; whole = refl; in_table = λ i. e i || false; numbered = λ h. no h } }
block_in contents.CodeFenced g t e = record { stands = t contents.CodeFenced; table = λ i. e i && false; leaf = refl; row = refl; value = refl; inside = (refl, refl) }
block_in contents.CodeIndented g t e = record { stands = t contents.CodeIndented; table = λ i. e i && false; leaf = refl; row = refl; value = refl; inside = any_inside contents.CodeIndented g refl }
block_in contents.Definition g t e = record { stands = t contents.Definition; table = λ i. e i && false; leaf = refl; row = refl; value = refl; inside = ((refl, refl), refl, refl, refl) }
block_in contents.FootnoteDefinition g t e = record { stands = t contents.FootnoteDefinition; table = λ i. e i && false; leaf = refl; row = refl; value = refl; inside = ((refl, refl), λ i. e i || false, refl) }
block_in contents.Frontmatter g t e = record { stands = t contents.Frontmatter; table = λ i. e i && false; leaf = refl; row = refl; value = refl; inside = any_inside contents.Frontmatter g refl }
block_in contents.HeadingAtx g t e = record { stands = t contents.HeadingAtx; table = λ i. e i && false; leaf = refl; row = refl; value = refl; inside = (refl, refl) }
block_in contents.HeadingSetext g t e = record { stands = t contents.HeadingSetext; table = λ i. e i && false; leaf = refl; row = refl; value = refl; inside = ((refl, refl), refl, refl) }
block_in contents.Html g t e = record { stands = t contents.Html; table = λ i. e i && false; leaf = refl; row = refl; value = refl; inside = any_inside contents.Html g refl }
block_in contents.ListOrdered g t e = record { stands = t contents.ListOrdered; table = λ i. e i && false; leaf = refl; row = refl; value = refl; inside = ((refl, refl), λ i. e i || false) }
block_in contents.ListUnordered g t e = record { stands = t contents.ListUnordered; table = λ i. e i && false; leaf = refl; row = refl; value = refl; inside = ((refl, refl), λ i. e i || false) }
block_in contents.MathFlow g t e = record { stands = t contents.MathFlow; table = λ i. e i && false; leaf = refl; row = refl; value = refl; inside = (refl, refl) }
block_in contents.Paragraph g t e = record { stands = t contents.Paragraph; table = λ i. e i && false; leaf = refl; row = refl; value = refl; inside = (takes_paragraph g.model, whole_paragraph g.model, λ h. no h) }
block_in contents.Table g t e = record { stands = t contents.Table; table = λ i. e i && true; leaf = refl; row = refl; value = refl; inside = any_inside contents.Table g refl }
block_in contents.ThematicBreak g t e = record { stands = t contents.ThematicBreak; table = λ i. e i && false; leaf = refl; row = refl; value = refl; inside = refl }
block_in _ g t e = tt

inline_in : (c : Content) (g : Ground) → TakesContent g → IfSome (in_inline c) (Enters (content c) g)
inline_in contents.CharacterReference g t = record { stands = t contents.CharacterReference; table = and_false g.in_table; leaf = refl; row = refl; value = refl; inside = ((refl, refl), refl) }
inline_in contents.Autolink g t = record { stands = t contents.Autolink; table = and_false g.in_table; leaf = refl; row = refl; value = refl; inside = ((refl, refl), refl, refl) }
inline_in contents.CodeText g t = record { stands = t contents.CodeText; table = and_false g.in_table; leaf = refl; row = refl; value = refl; inside = any_inside contents.CodeText g refl }
inline_in contents.Emphasis g t = record { stands = t contents.Emphasis; table = and_false g.in_table; leaf = refl; row = refl; value = refl; inside = any_inside contents.Emphasis g refl }
inline_in contents.FootnoteCall g t = record { stands = t contents.FootnoteCall; table = and_false g.in_table; leaf = refl; row = refl; value = refl; inside = ((refl, refl), refl) }
inline_in contents.Html g t = record { stands = t contents.Html; table = and_false g.in_table; leaf = refl; row = refl; value = refl; inside = any_inside contents.Html g refl }
inline_in contents.Image g t = record { stands = t contents.Image; table = and_false g.in_table; leaf = refl; row = refl; value = refl; inside = ((refl, refl), refl, refl, refl) }
inline_in contents.Link g t = record { stands = t contents.Link; table = and_false g.in_table; leaf = refl; row = refl; value = refl; inside = ((refl, refl), refl, refl, refl) }
inline_in contents.MathText g t = record { stands = t contents.MathText; table = and_false g.in_table; leaf = refl; row = refl; value = refl; inside = any_inside contents.MathText g refl }
inline_in contents.Strikethrough g t = record { stands = t contents.Strikethrough; table = and_false g.in_table; leaf = refl; row = refl; value = refl; inside = any_inside contents.Strikethrough g refl }
inline_in contents.Strong g t = record { stands = t contents.Strong; table = and_false g.in_table; leaf = refl; row = refl; value = refl; inside = any_inside contents.Strong g refl }
inline_in contents.TableCell g t = record { stands = t contents.TableCell; table = and_false g.in_table; leaf = refl; row = refl; value = refl; inside = any_inside contents.TableCell g refl }
inline_in contents.TableRow g t = record { stands = t contents.TableRow; table = and_false g.in_table; leaf = refl; row = refl; value = refl; inside = any_inside contents.TableRow g refl }
inline_in _ g t = tt

-- the items of an unordered list, and of an ordered one
item_inside : (h : ContentModel) (g : Ground) → content_model g.model contents.ListItem ≡ h → (h ≡ grammar.list_item) → g.in_table ≡ false → Fits (item false) (ground_in (content contents.ListItem) g)
item_inside h g e k t = (
  record {
    content = λ c. λ i. takes ((e ∙ k) i) (λ p. false) (content c);
    whole = λ i. has_required ((e ∙ k) i) (λ p. false) false;
    in_table = λ i. t i || false;
    numbered = λ x. no x;
  },
  inl (e ∙ k),
)

number_inside : (g : Ground) → TakesContent g → IsOf grammar.list_ordered g → g.in_table ≡ false → Enters (content contents.ListItem) g item_number
number_inside g t f e =
    let m : content_model g.model contents.ListItem ≡ grammar.numbered_item = λ i. content_model (f.1 i) contents.ListItem in
    record { stands = t contents.ListItem; table = λ i. e i && false; leaf = refl; row = refl; value = refl; inside = ((m, m), λ i. e i || false, refl) }

task_inside : (g : Ground) → (g.model ≡ grammar.list_item) ⊎ (g.model ≡ grammar.numbered_item) → content_model g.model contents.Paragraph ≡ grammar.task_paragraph
task_inside g (inl e) = λ i. content_model (e i) contents.Paragraph
task_inside g (inr e) = λ i. content_model (e i) contents.Paragraph

-- ---- Content that stands

-- any content may stand where inlines may
pub takes_content : (a : Stage) (g : Ground) → takes_inlines a ≡ true → Fits a g → TakesContent g
takes_content (flow n) g t f = f.content
takes_content (item n) g t f = f.0.content
takes_content (inlines h) g t f = f.0
takes_content task g t f = λ c. at_model grammar.task_paragraph g (content c) f.0.0 refl
takes_content code_lines g t f = λ c. at_model grammar.code_fenced g (content c) f.0 (takes_code_content g.stood c f.2)
takes_content math_lines g t f = λ c. at_model grammar.math_flow g (content c) f.0 (takes_math_content g.stood c f.2)
takes_content _ g t f = no t

-- in content, an item may begin as the stage says
pub content_in : (a : Stage) (c : Content) (g : Ground) → Fits a g → IfSome (in_content a c) (Enters (content c) g)
content_in (item n) contents.Paragraph g f =
    let m : content_model g.model contents.Paragraph ≡ grammar.task_paragraph = task_inside g f.1 in
    record { stands = f.0.content contents.Paragraph; table = λ i. f.0.in_table i && false; leaf = refl; row = refl; value = refl; inside = ((m, m), refl, refl) }
content_in (item n) c g f = block_in c g f.0.content f.0.in_table
content_in (flow n) c g f = block_in c g f.content f.in_table
content_in list_unordered contents.ListItem g f =
    record { stands = at_model grammar.any_content g (content contents.ListItem) f.0.0 refl; table = λ i. f.1 i && false; leaf = refl; row = refl; value = refl; inside = item_inside grammar.list_item g (λ i. content_model (f.0.1 i) contents.ListItem) refl f.1 }
content_in list_ordered contents.ListItem g f = number_inside g (λ c. at_model grammar.list_ordered g (content c) f.0.0 refl) f.0 f.1
content_in list_numbered contents.ListItem g f = number_inside g (λ c. at_model grammar.list_ordered g (content c) f.0.0 refl) f.0 f.1
content_in (inlines h) c g f = inline_in c g f.0
content_in task c g f = inline_in c g (takes_content task g refl f)
content_in _ c g f = tt

-- ---- Parts that begin

part_enters : (p : Part) (g : Ground) (b : Stage) → takes g.initial_model g.stood (part p) ≡ true → is_in_row b ≡ false → is_in_value b ≡ false → Fits b (ground_in (part p) g) → Enters (part p) g b
part_enters p g b t r v f = record { stands = t; table = and_false g.in_table; leaf = refl; row = r; value = v; inside = f }

-- nothing stands in it
nothing_in : (h : ContentModel) (p : Part) (g : Ground) → IsOf h g → part_model h p ≡ grammar.leaf → takes h g.stood (part p) ≡ true → Enters (part p) g nothing
nothing_in h p g f e t = part_enters p g nothing (at_model h g (part p) f.0 t) refl refl ((λ i. has_required (part_model (f.1 i) p) (λ q. false) false) ∙ (λ i. has_required (e i) (λ q. false) false))

-- any content stands in it
inlines_in : (h : ContentModel) (p : Part) (g : Ground) → IsOf h g → part_model h p ≡ grammar.any_content → takes h g.stood (part p) ≡ true → Enters (part p) g (inlines false)
inlines_in h p g f e t =
    let m : part_model g.model p ≡ grammar.any_content = (λ i. part_model (f.1 i) p) ∙ e in
    part_enters p g (inlines false) (at_model h g (part p) f.0 t) refl refl (λ c. λ i. takes (m i) (λ q. false) (content c), λ i. has_required (m i) (λ q. false) false, λ x. no x)

-- it has a content model of its own
own_in : (h k : ContentModel) (p : Part) (g : Ground) → IsOf h g → part_model h p ≡ k → IsOf k (ground_in (part p) g)
own_in h k p g f e =
    let m : part_model g.model p ≡ k = (λ i. part_model (f.1 i) p) ∙ e in
    (m, m)

-- in a part, an item may begin as the stage says
pub part_in : (a : Stage) (p : Part) (g : Ground) → Fits a g → IfSome (in_part a p) (Enters (part p) g)
part_in item_number parts.ListItemValue g f = nothing_in grammar.numbered_item parts.ListItemValue g f.0 refl (simp f.2)
part_in footnote_definition parts.FootnoteDefinitionLabelString g f = inlines_in grammar.footnote_definition parts.FootnoteDefinitionLabelString g f.0 refl (simp f.2)
part_in heading_atx parts.HeadingAtxSequence g f = nothing_in grammar.heading_atx parts.HeadingAtxSequence g f refl refl
part_in (inlines true) parts.HeadingAtxSequence g f =
    let h : IsInHeading g = f.2 refl in
    part_enters parts.HeadingAtxSequence g nothing (at_model grammar.heading_atx g (part parts.HeadingAtxSequence) h.initial_model refl) refl refl (λ i. has_required (part_model (h.model i) parts.HeadingAtxSequence) (λ q. false) false)
part_in heading_setext parts.HeadingSetextText g f = inlines_in grammar.heading_setext parts.HeadingSetextText g f.0 refl (takes_setext_text g.stood f.1)
part_in heading_setext_underline parts.HeadingSetextUnderlineSequence g f = nothing_in grammar.heading_setext parts.HeadingSetextUnderlineSequence g f.0 refl (takes_underline g.stood f.1)
part_in code_fenced parts.CodeFencedFence g f =
    part_enters parts.CodeFencedFence g code_fence (at_model grammar.code_fenced g (part parts.CodeFencedFence) f.0 (takes_code_fence g.stood)) refl refl (own_in grammar.code_fenced grammar.code_fence parts.CodeFencedFence g f refl, refl, refl)
part_in code_lines parts.CodeFencedFence g f =
    part_enters parts.CodeFencedFence g nothing (at_model grammar.code_fenced g (part parts.CodeFencedFence) f.0 (takes_code_fence g.stood)) refl refl (λ i. has_required (part_model (f.1 i) parts.CodeFencedFence) (λ q. false) false)
part_in math_flow parts.MathFlowFence g f =
    part_enters parts.MathFlowFence g math_fence (at_model grammar.math_flow g (part parts.MathFlowFence) f.0 (takes_math_fence g.stood)) refl refl (own_in grammar.math_flow grammar.math_fence parts.MathFlowFence g f refl, refl)
part_in math_lines parts.MathFlowFence g f =
    part_enters parts.MathFlowFence g nothing (at_model grammar.math_flow g (part parts.MathFlowFence) f.0 (takes_math_fence g.stood)) refl refl (λ i. has_required (part_model (f.1 i) parts.MathFlowFence) (λ q. false) false)
part_in code_fence parts.CodeFencedFenceInfo g f = inlines_in grammar.code_fence parts.CodeFencedFenceInfo g f.0 refl (simp f.1)
part_in code_fence parts.CodeFencedFenceMeta g f = inlines_in grammar.code_fence parts.CodeFencedFenceMeta g f.0 refl (simp f.2)
part_in code_fence_meta parts.CodeFencedFenceMeta g f = inlines_in grammar.code_fence parts.CodeFencedFenceMeta g f.0 refl (simp f.1)
part_in math_fence parts.MathFlowFenceMeta g f = inlines_in grammar.math_fence parts.MathFlowFenceMeta g f.0 refl (simp f.1)
part_in definition parts.DefinitionLabelString g f = inlines_in grammar.definition parts.DefinitionLabelString g f.0 refl (simp f.1)
part_in definition_destination parts.DefinitionDestinationString g f = inlines_in grammar.definition parts.DefinitionDestinationString g f.0 refl (simp f.1)
part_in definition_title parts.DefinitionTitleString g f = inlines_in grammar.definition parts.DefinitionTitleString g f.0 refl (simp f.1)
part_in media parts.LabelText g f = inlines_in grammar.media parts.LabelText g f.0 refl (takes_media_label g.stood f.1 f.2 f.3)
part_in media parts.Resource g f = part_enters parts.Resource g resource (at_model grammar.media g (part parts.Resource) f.0.0 (takes_media_resource g.stood f.2 f.3)) refl refl (own_in grammar.media grammar.resource parts.Resource g f.0 refl, refl, refl)
part_in media parts.Reference g f = part_enters parts.Reference g reference (at_model grammar.media g (part parts.Reference) f.0.0 (takes_media_reference g.stood f.2 f.3)) refl refl (own_in grammar.media grammar.reference parts.Reference g f.0 refl, refl)
part_in media_target parts.Resource g f = part_enters parts.Resource g resource (at_model grammar.media g (part parts.Resource) f.0.0 (takes_media_resource g.stood f.1 f.2)) refl refl (own_in grammar.media grammar.resource parts.Resource g f.0 refl, refl, refl)
part_in media_target parts.Reference g f = part_enters parts.Reference g reference (at_model grammar.media g (part parts.Reference) f.0.0 (takes_media_reference g.stood f.1 f.2)) refl refl (own_in grammar.media grammar.reference parts.Reference g f.0 refl, refl)
part_in resource parts.ResourceDestinationString g f = inlines_in grammar.resource parts.ResourceDestinationString g f.0 refl (simp f.1)
part_in resource parts.ResourceTitleString g f = inlines_in grammar.resource parts.ResourceTitleString g f.0 refl (simp f.2)
part_in resource_title parts.ResourceTitleString g f = inlines_in grammar.resource parts.ResourceTitleString g f.0 refl (simp f.1)
part_in reference parts.ReferenceString g f = inlines_in grammar.reference parts.ReferenceString g f.0 refl (simp f.1)
part_in footnote_call parts.LabelText g f = inlines_in grammar.footnote_call parts.LabelText g f.0 refl (simp f.1)
part_in autolink parts.AutolinkEmail g f = nothing_in grammar.autolink parts.AutolinkEmail g f.0 refl (simp (f.1, f.2))
part_in autolink parts.AutolinkProtocol g f = nothing_in grammar.autolink parts.AutolinkProtocol g f.0 refl (simp (f.1, f.2))
part_in character_reference parts.CharacterReferenceMarker g f = nothing_in grammar.character_reference parts.CharacterReferenceMarker g f.0 refl (takes_marker g.stood f.1)
part_in (character_reference_value m) parts.CharacterReferenceMarkerNumeric g f = nothing_in grammar.character_reference parts.CharacterReferenceMarkerNumeric g f.0 refl (takes_numeric g.stood f.1)
part_in (character_reference_value m) parts.CharacterReferenceMarkerHexadecimal g f = nothing_in grammar.character_reference parts.CharacterReferenceMarkerHexadecimal g f.0 refl (takes_hexadecimal g.stood f.1)
part_in (character_reference_value m) parts.CharacterReferenceValue g f = nothing_in grammar.character_reference parts.CharacterReferenceValue g f.0 refl (takes_value g.stood f.1 f.2)
part_in task parts.TaskMarkChecked g f = nothing_in grammar.task_paragraph parts.TaskMarkChecked g f.0 refl (simp (f.1, f.2))
part_in task parts.TaskMarkUnchecked g f = nothing_in grammar.task_paragraph parts.TaskMarkUnchecked g f.0 refl (simp (f.1, f.2))
part_in _ p g f = tt

-- ---- After a part

-- the content models stay
stays_of : (h : ContentModel) (what : ItemKind) (m n : Bool) (g : Ground) → IsOf h g → model_after h what m ≡ h → IsOf h (ground_after what m n g)
stays_of h what m n g f e = (f.0, (λ i. model_after (f.1 i) what m) ∙ e)

-- any content stands after it, if the content model lets it stand after anything
takes_after : (h : ContentModel) (what : ItemKind) (m n : Bool) (g : Ground) → g.initial_model ≡ h → ((s : Part → Bool) (c : Content) → takes h s (content c) ≡ true) → TakesContent (ground_after what m n g)
takes_after h what m n g e t c = (λ i. takes (e i) (ground_after what m n g).stood (content c)) ∙ t (ground_after what m n g).stood c

ends_after : (h : ContentModel) (what : ItemKind) (m n : Bool) (g : Ground) → g.initial_model ≡ h → ((s : Part → Bool) → takes h s (content contents.LineEnding) ≡ true) → ((s : Part → Bool) (b : Bool) → has_required h s b ≡ true) → Fits endings (ground_after what m n g)
ends_after h what m n g e t w =
    let x : Ground = ground_after what m n g in
    ((λ i. takes (e i) x.stood (content contents.LineEnding)) ∙ t x.stood, (λ i. has_required (e i) x.stood x.is_numbered) ∙ w x.stood x.is_numbered)

whole_after : (h : ContentModel) (what : ItemKind) (m n : Bool) (g : Ground) → g.initial_model ≡ h → ((s : Part → Bool) (b : Bool) → has_required h s b ≡ true) → IsWhole (ground_after what m n g)
whole_after h what m n g e w =
    let x : Ground = ground_after what m n g in
    (λ i. has_required (e i) x.stood x.is_numbered) ∙ w x.stood x.is_numbered

signs_after : (m n : Bool) (g : Ground) → g.initial_model ≡ grammar.heading_atx → model_after g.model (part parts.HeadingAtxSequence) m ≡ grammar.heading_text → Fits (inlines true) (ground_after (part parts.HeadingAtxSequence) m n g)
signs_after m n g e k = (
  takes_after grammar.heading_atx (part parts.HeadingAtxSequence) m n g e (λ s c. refl),
  (λ i. has_required (e i) (ground_after (part parts.HeadingAtxSequence) m n g).stood (ground_after (part parts.HeadingAtxSequence) m n g).is_numbered) ∙ or_true (g.stood parts.HeadingAtxSequence),
  λ x. record { initial_model = e; model = k; stood = or_true (g.stood parts.HeadingAtxSequence) },
)

-- the stage after a part is true of its container
pub part_out : (a : Stage) (p : Part) (m n : Bool) (g : Ground) → Fits a g → OnSome (in_part a p) (Fits (after_part a p) (ground_after (part p) m n g))
part_out item_number parts.ListItemValue m n g f = (
  record {
    content = takes_after grammar.numbered_item (part parts.ListItemValue) m n g f.0.0 (λ s c. refl);
    whole = whole_after grammar.numbered_item (part parts.ListItemValue) m n g f.0.0 (λ s b. refl);
    in_table = f.1;
    numbered = λ x. or_true g.is_numbered;
  },
  inr (λ i. model_after (f.0.1 i) (part parts.ListItemValue) m),
)
part_out footnote_definition parts.FootnoteDefinitionLabelString m n g f = record {
  content = takes_after grammar.footnote_definition (part parts.FootnoteDefinitionLabelString) m n g f.0.0 (λ s c. refl);
  whole = whole_after grammar.footnote_definition (part parts.FootnoteDefinitionLabelString) m n g f.0.0 (λ s b. refl);
  in_table = f.1;
  numbered = λ x. no x;
}
part_out heading_atx parts.HeadingAtxSequence m n g f = signs_after m n g f.0 (λ i. model_after (f.1 i) (part parts.HeadingAtxSequence) m)
part_out (inlines true) parts.HeadingAtxSequence m n g f =
    let h : IsInHeading g = f.2 refl in
    signs_after m n g h.initial_model (λ i. model_after (h.model i) (part parts.HeadingAtxSequence) m)
part_out heading_setext parts.HeadingSetextText m n g f = (stays_of grammar.heading_setext (part parts.HeadingSetextText) m n g f.0 refl, λ i. f.2 i || false)
part_out heading_setext_underline parts.HeadingSetextUnderlineSequence m n g f =
    let x : Ground = ground_after (part parts.HeadingSetextUnderlineSequence) m n g in
    (λ i. has_required (f.0.0 i) x.stood x.is_numbered) ∙ or_true (g.stood parts.HeadingSetextUnderlineSequence)
part_out code_fenced parts.CodeFencedFence m n g f = (f.0, λ i. model_after (f.1 i) (part parts.CodeFencedFence) m, or_true (g.stood parts.CodeFencedFence))
part_out code_lines parts.CodeFencedFence m n g f = (f.0, λ i. model_after (f.1 i) (part parts.CodeFencedFence) m, or_true (g.stood parts.CodeFencedFence))
part_out math_flow parts.MathFlowFence m n g f = (f.0, λ i. model_after (f.1 i) (part parts.MathFlowFence) m, or_true (g.stood parts.MathFlowFence))
part_out math_lines parts.MathFlowFence m n g f = (f.0, λ i. model_after (f.1 i) (part parts.MathFlowFence) m, or_true (g.stood parts.MathFlowFence))
part_out code_fence parts.CodeFencedFenceInfo m n g f = (stays_of grammar.code_fence (part parts.CodeFencedFenceInfo) m n g f.0 refl, λ i. f.2 i || false)
part_out code_fence parts.CodeFencedFenceMeta m n g f = whole_after grammar.code_fence (part parts.CodeFencedFenceMeta) m n g f.0.0 (λ s b. refl)
part_out code_fence_meta parts.CodeFencedFenceMeta m n g f = whole_after grammar.code_fence (part parts.CodeFencedFenceMeta) m n g f.0.0 (λ s b. refl)
part_out math_fence parts.MathFlowFenceMeta m n g f = whole_after grammar.math_fence (part parts.MathFlowFenceMeta) m n g f.0.0 (λ s b. refl)
part_out definition parts.DefinitionLabelString m n g f = (stays_of grammar.definition (part parts.DefinitionLabelString) m n g f.0 refl, λ i. f.2 i || false, λ i. f.3 i || false)
part_out definition_destination parts.DefinitionDestinationString m n g f = (stays_of grammar.definition (part parts.DefinitionDestinationString) m n g f.0 refl, λ i. f.2 i || false)
part_out definition_title parts.DefinitionTitleString m n g f = ends_after grammar.definition (part parts.DefinitionTitleString) m n g f.0.0 (λ s. refl) (λ s b. refl)
part_out media parts.LabelText m n g f = (stays_of grammar.media (part parts.LabelText) m n g f.0 refl, λ i. f.2 i || false, λ i. f.3 i || false)
part_out media parts.Resource m n g f = ends_after grammar.media (part parts.Resource) m n g f.0.0 takes_media_ending (λ s b. refl)
part_out media parts.Reference m n g f = ends_after grammar.media (part parts.Reference) m n g f.0.0 takes_media_ending (λ s b. refl)
part_out media_target parts.Resource m n g f = ends_after grammar.media (part parts.Resource) m n g f.0.0 takes_media_ending (λ s b. refl)
part_out media_target parts.Reference m n g f = ends_after grammar.media (part parts.Reference) m n g f.0.0 takes_media_ending (λ s b. refl)
part_out resource parts.ResourceDestinationString m n g f = (stays_of grammar.resource (part parts.ResourceDestinationString) m n g f.0 refl, λ i. f.2 i || false)
part_out resource parts.ResourceTitleString m n g f = ends_after grammar.resource (part parts.ResourceTitleString) m n g f.0.0 (λ s. refl) (λ s b. refl)
part_out resource_title parts.ResourceTitleString m n g f = ends_after grammar.resource (part parts.ResourceTitleString) m n g f.0.0 (λ s. refl) (λ s b. refl)
part_out reference parts.ReferenceString m n g f = ends_after grammar.reference (part parts.ReferenceString) m n g f.0.0 (λ s. refl) (λ s b. refl)
part_out footnote_call parts.LabelText m n g f = whole_after grammar.footnote_call (part parts.LabelText) m n g f.0.0 (λ s b. refl)
part_out autolink parts.AutolinkEmail m n g f = whole_after grammar.autolink (part parts.AutolinkEmail) m n g f.0.0 (λ s b. refl)
part_out autolink parts.AutolinkProtocol m n g f = whole_after grammar.autolink (part parts.AutolinkProtocol) m n g f.0.0 (λ s b. refl)
part_out character_reference parts.CharacterReferenceMarker m n g f = (stays_of grammar.character_reference (part parts.CharacterReferenceMarker) m n g f.0 refl, λ i. f.1 i || false, simp or_true, refl)
part_out (character_reference_value k) parts.CharacterReferenceMarkerNumeric m n g f = (stays_of grammar.character_reference (part parts.CharacterReferenceMarkerNumeric) m n g f.0 refl, λ i. f.1 i || false, simp or_true, refl)
part_out (character_reference_value k) parts.CharacterReferenceMarkerHexadecimal m n g f = (stays_of grammar.character_reference (part parts.CharacterReferenceMarkerHexadecimal) m n g f.0 refl, λ i. f.1 i || false, simp or_true, refl)
part_out (character_reference_value k) parts.CharacterReferenceValue m n g f =
    let x : Ground = ground_after (part parts.CharacterReferenceValue) m n g in
    (λ i. has_required (f.0.0 i) x.stood x.is_numbered) ∙ or_true (g.stood parts.CharacterReferenceValue)
part_out task parts.TaskMarkChecked m n g f =
    (takes_after grammar.task_paragraph (part parts.TaskMarkChecked) m n g f.0.0 (λ s c. refl), whole_after grammar.task_paragraph (part parts.TaskMarkChecked) m n g f.0.0 (λ s b. refl), λ x. no x)
part_out task parts.TaskMarkUnchecked m n g f =
    (takes_after grammar.task_paragraph (part parts.TaskMarkUnchecked) m n g f.0.0 (λ s c. refl), whole_after grammar.task_paragraph (part parts.TaskMarkUnchecked) m n g f.0.0 (λ s b. refl), λ x. no x)
part_out _ p m n g f = tt

-- ---- After content

-- the item of a container which takes a task mark is still one
abbrev pub IsCalm : Content → Bool → Type 0
IsCalm c m = (model_after grammar.list_item (content c) m ≡ grammar.list_item) × (model_after grammar.numbered_item (content c) m ≡ grammar.numbered_item)

abbrev pub is_item : Stage → Bool
is_item (item n) = true
is_item _ = false

blocks_after : (k : Bool) (c : Content) (m n : Bool) (g : Ground) → TakesBlocks k g → TakesBlocks k (ground_after (content c) m n g)
blocks_after k c m n g f = record {
  content = λ d. (λ i. takes g.initial_model (λ q. or_false (g.stood q) i) (content d)) ∙ f.content d;
  whole = (λ i. has_required g.initial_model (λ q. or_false (g.stood q) i) (ground_after (content c) m n g).is_numbered) ∙ whole_more g.initial_model g.stood g.is_numbered _ f.whole;
  in_table = f.in_table;
  numbered = λ x. λ i. f.numbered x i || gives_number (content c) n;
}

-- where content or a line ending stands, the stage stays
pub stays : (a : Stage) (c : Content) (m n : Bool) (g : Ground) → takes_line_endings a ≡ true → (is_item a ≡ true → IsCalm c m) → Fits a g → Fits a (ground_after (content c) m n g)
stays (flow k) c m n g t calm f = blocks_after k c m n g f
stays (item k) c m n g t calm f = (blocks_after k c m n g f.0, elim f.1 [ inl e ↦ inl ((λ i. model_after (e i) (content c) m) ∙ (calm refl).0) | inr e ↦ inr ((λ i. model_after (e i) (content c) m) ∙ (calm refl).1) ])
stays (inlines h) c m n g t calm f = (
  λ d. (λ i. takes g.initial_model (λ q. or_false (g.stood q) i) (content d)) ∙ f.0 d,
  (λ i. has_required g.initial_model (λ q. or_false (g.stood q) i) (ground_after (content c) m n g).is_numbered) ∙ whole_more g.initial_model g.stood g.is_numbered _ f.1,
  λ x. record { initial_model = (f.2 x).initial_model; model = λ i. model_after ((f.2 x).model i) (content c) m; stood = λ i. (f.2 x).stood i || false },
)
stays task c m n g t calm f = (stays_of grammar.task_paragraph (content c) m n g f.0 refl, λ i. f.1 i || false, λ i. f.2 i || false)
stays endings c m n g t calm f = (
  (λ i. takes g.initial_model (λ q. or_false (g.stood q) i) (content contents.LineEnding)) ∙ f.0,
  (λ i. has_required g.initial_model (λ q. or_false (g.stood q) i) (ground_after (content c) m n g).is_numbered) ∙ whole_more g.initial_model g.stood g.is_numbered _ f.1,
)
stays list_unordered c m n g t calm f = (stays_of grammar.any_content (content c) m n g f.0 refl, f.1)
stays list_ordered c m n g t calm f = (stays_of grammar.list_ordered (content c) m n g f.0 refl, f.1)
stays list_numbered c m n g t calm f = (stays_of grammar.list_ordered (content c) m n g f.0 refl, f.1, λ i. f.2 i || gives_number (content c) n)
stays heading_setext_underline c m n g t calm f = (stays_of grammar.heading_setext (content c) m n g f.0 refl, λ i. f.1 i || false)
stays code_lines c m n g t calm f = (f.0, λ i. model_after (f.1 i) (content c) m, λ i. f.2 i || false)
stays math_lines c m n g t calm f = (f.0, λ i. model_after (f.1 i) (content c) m, λ i. f.2 i || false)
stays definition c m n g t calm f = (stays_of grammar.definition (content c) m n g f.0 refl, λ i. f.1 i || false, λ i. f.2 i || false, λ i. f.3 i || false)
stays definition_destination c m n g t calm f = (stays_of grammar.definition (content c) m n g f.0 refl, λ i. f.1 i || false, λ i. f.2 i || false)
stays definition_title c m n g t calm f = (stays_of grammar.definition (content c) m n g f.0 refl, λ i. f.1 i || false)
stays media c m n g t calm f = (stays_of grammar.media (content c) m n g f.0 refl, λ i. f.1 i || false, λ i. f.2 i || false, λ i. f.3 i || false)
stays media_target c m n g t calm f = (stays_of grammar.media (content c) m n g f.0 refl, λ i. f.1 i || false, λ i. f.2 i || false)
stays resource c m n g t calm f = (stays_of grammar.resource (content c) m n g f.0 refl, λ i. f.1 i || false, λ i. f.2 i || false)
stays resource_title c m n g t calm f = (stays_of grammar.resource (content c) m n g f.0 refl, λ i. f.1 i || false)
stays reference c m n g t calm f = (stays_of grammar.reference (content c) m n g f.0 refl, λ i. f.1 i || false)
stays _ c m n g t calm f = no t

-- a line ending may stand where the stage says so
pub takes_ending : (a : Stage) (g : Ground) → takes_line_endings a ≡ true → Fits a g → takes g.initial_model g.stood (content contents.LineEnding) ≡ true
takes_ending (flow n) g t f = f.content contents.LineEnding
takes_ending (item n) g t f = f.0.content contents.LineEnding
takes_ending (inlines h) g t f = f.0 contents.LineEnding
takes_ending task g t f = takes_content task g t f contents.LineEnding
takes_ending code_lines g t f = takes_content code_lines g t f contents.LineEnding
takes_ending math_lines g t f = takes_content math_lines g t f contents.LineEnding
takes_ending endings g t f = f.0
takes_ending list_unordered g t f = at_model grammar.any_content g (content contents.LineEnding) f.0.0 refl
takes_ending list_ordered g t f = at_model grammar.list_ordered g (content contents.LineEnding) f.0.0 refl
takes_ending list_numbered g t f = at_model grammar.list_ordered g (content contents.LineEnding) f.0.0 refl
takes_ending heading_setext_underline g t f = at_model grammar.heading_setext g (content contents.LineEnding) f.0.0 (takes_setext_ending g.stood)
takes_ending definition g t f = at_model grammar.definition g (content contents.LineEnding) f.0.0 refl
takes_ending definition_destination g t f = at_model grammar.definition g (content contents.LineEnding) f.0.0 refl
takes_ending definition_title g t f = at_model grammar.definition g (content contents.LineEnding) f.0.0 refl
takes_ending media g t f = at_model grammar.media g (content contents.LineEnding) f.0.0 (takes_media_ending g.stood)
takes_ending media_target g t f = at_model grammar.media g (content contents.LineEnding) f.0.0 (takes_media_ending g.stood)
takes_ending resource g t f = at_model grammar.resource g (content contents.LineEnding) f.0.0 refl
takes_ending resource_title g t f = at_model grammar.resource g (content contents.LineEnding) f.0.0 refl
takes_ending reference g t f = at_model grammar.reference g (content contents.LineEnding) f.0.0 refl
takes_ending _ g t f = no t

-- ---- The end of a span

-- what has to stand has stood where the stage says that the span may end
pub whole : (a : Stage) (g : Ground) → may_end a ≡ true → Fits a g → IsWhole g
whole (flow n) g t f = f.whole
whole (item n) g t f = f.0.whole
whole (inlines h) g t f = f.1
whole task g t f = λ i. has_required (f.0.0 i) g.stood g.is_numbered
whole endings g t f = f.1
whole nothing g t f = f
whole list_unordered g t f = λ i. has_required (f.0.0 i) g.stood g.is_numbered
whole list_numbered g t f = (λ i. has_required (f.0.0 i) g.stood g.is_numbered) ∙ f.2
whole code_lines g t f = (λ i. has_required (f.0 i) g.stood g.is_numbered) ∙ f.2
whole math_lines g t f = (λ i. has_required (f.0 i) g.stood g.is_numbered) ∙ f.2
whole code_fence g t f = λ i. has_required (f.0.0 i) g.stood g.is_numbered
whole code_fence_meta g t f = λ i. has_required (f.0.0 i) g.stood g.is_numbered
whole math_fence g t f = λ i. has_required (f.0.0 i) g.stood g.is_numbered
whole definition g t f = λ i. has_required (f.0.0 i) g.stood g.is_numbered
whole definition_destination g t f = λ i. has_required (f.0.0 i) g.stood g.is_numbered
whole definition_title g t f = λ i. has_required (f.0.0 i) g.stood g.is_numbered
whole media g t f = λ i. has_required (f.0.0 i) g.stood g.is_numbered
whole media_target g t f = λ i. has_required (f.0.0 i) g.stood g.is_numbered
whole resource g t f = λ i. has_required (f.0.0 i) g.stood g.is_numbered
whole resource_title g t f = λ i. has_required (f.0.0 i) g.stood g.is_numbered
whole reference g t f = λ i. has_required (f.0.0 i) g.stood g.is_numbered
whole footnote_call g t f = λ i. has_required (f.0.0 i) g.stood g.is_numbered
whole _ g t f = no t

-- a container at a stage, which is in no delimiter row
abbrev pub IsLeft : Stage → Ground → Type 0
IsLeft b g = Fits b g × (is_in_row b ≡ false) × (is_in_value b ≡ false)

-- an ordered list after an item
list_out : (own : Stage) (m : Bool) (mine g : Ground) → Fits own mine → Fits list_ordered g → IsLeft (after_content list_ordered own) (ground_after (content contents.ListItem) m mine.is_numbered g)
list_out (flow true) m mine g f o = ((stays_of grammar.list_ordered (content contents.ListItem) m mine.is_numbered g o.0 refl, o.1, (λ i. g.is_numbered || f.numbered refl i) ∙ or_true g.is_numbered), refl, refl)
list_out (item true) m mine g f o = ((stays_of grammar.list_ordered (content contents.ListItem) m mine.is_numbered g o.0 refl, o.1, (λ i. g.is_numbered || f.0.numbered refl i) ∙ or_true g.is_numbered), refl, refl)
list_out _ m mine g f o = ((stays_of grammar.list_ordered (content contents.ListItem) m mine.is_numbered g o.0 refl, o.1), refl, refl)

-- the stage after content is true of its container
pub content_out : (own a : Stage) (c : Content) (m : Bool) (mine g : Ground) → Fits own mine → Fits a g → is_some (in_content a c) ≡ true → IsLeft (after_content a own) (ground_after (content c) m mine.is_numbered g)
content_out own list_ordered contents.ListItem m mine g f o e = list_out own m mine g f o
content_out own (item n) c m mine g f o e = (blocks_after n c m mine.is_numbered g o.0, refl, refl)
content_out own (flow n) c m mine g f o e = (stays (flow n) c m mine.is_numbered g refl (λ x. no x) o, refl, refl)
content_out own (inlines h) c m mine g f o e = (stays (inlines h) c m mine.is_numbered g refl (λ x. no x) o, refl, refl)
content_out own task c m mine g f o e = (stays task c m mine.is_numbered g refl (λ x. no x) o, refl, refl)
content_out own list_unordered c m mine g f o e = (stays list_unordered c m mine.is_numbered g refl (λ x. no x) o, refl, refl)
content_out own list_numbered c m mine g f o e = (stays list_numbered c m mine.is_numbered g refl (λ x. no x) o, refl, refl)
content_out own _ c m mine g f o e = no e

-- the stage after a part is in no delimiter row
pub part_left : (a : Stage) (p : Part) → (is_in_row (after_part a p) ≡ false) × (is_in_value (after_part a p) ≡ false)
part_left code_fence parts.CodeFencedFenceInfo = (refl, refl)
part_left code_fence _ = (refl, refl)
part_left media parts.LabelText = (refl, refl)
part_left media _ = (refl, refl)
part_left resource parts.ResourceDestinationString = (refl, refl)
part_left resource _ = (refl, refl)
part_left (character_reference_value m) parts.CharacterReferenceMarkerNumeric = (refl, refl)
part_left (character_reference_value m) parts.CharacterReferenceMarkerHexadecimal = (refl, refl)
part_left (character_reference_value m) _ = (refl, refl)
part_left _ p = (refl, refl)

-- ---- Delimiter rows

-- no item begins in one
pub none_in_row : (a : Stage) (what : ItemKind) → is_in_row a ≡ true → entered a (significant what) ≡ None
none_in_row delimiter_row (content c) h = refl
none_in_row delimiter_row (part p) h = refl
none_in_row delimiter_value (content c) h = refl
none_in_row delimiter_value (part p) h = refl
none_in_row _ what h = no h

pub row_of_value : (a : Stage) → is_in_value a ≡ true → is_in_row a ≡ true
row_of_value delimiter_value h = refl
row_of_value _ h = no h

-- where inlines may stand, a line ending may, and in a delimiter row neither
pub ends_of_inlines : (a : Stage) → takes_inlines a ≡ true → takes_line_endings a ≡ true
ends_of_inlines (flow n) t = refl
ends_of_inlines (item n) t = refl
ends_of_inlines (inlines h) t = refl
ends_of_inlines task t = refl
ends_of_inlines code_lines t = refl
ends_of_inlines math_lines t = refl
ends_of_inlines _ t = no t

pub row_of_endings : (a : Stage) → takes_line_endings a ≡ true → is_in_row a ≡ false
row_of_endings delimiter_row t = no t
row_of_endings delimiter_value t = no t
row_of_endings _ t = refl

-- ---- A stage after another, with no item in between

pub skipped : (a b : Stage) (g : Ground) → skips a b ≡ true → Fits a g → Fits b g × (is_in_row a ≡ is_in_row b) × (is_in_value a ≡ is_in_value b)
skipped (item n) (flow false) g h f = (record { content = f.0.content; whole = f.0.whole; in_table = f.0.in_table; numbered = λ x. no x }, refl, refl)
skipped (item true) (flow true) g h f = (f.0, refl, refl)
skipped (flow true) (flow false) g h f = (record { content = f.content; whole = f.whole; in_table = f.in_table; numbered = λ x. no x }, refl, refl)
skipped task (inlines false) g h f = ((takes_content task g refl f, whole task g refl f, λ x. no x), refl, refl)
skipped list_numbered list_ordered g h f = ((f.0, f.1), refl, refl)
skipped code_fence code_fence_meta g h f = ((f.0, f.2), refl, refl)
skipped code_fence nothing g h f = (whole code_fence g refl f, refl, refl)
skipped code_fence_meta nothing g h f = (whole code_fence_meta g refl f, refl, refl)
skipped math_fence nothing g h f = (whole math_fence g refl f, refl, refl)
skipped footnote_definition (flow false) g h f = (
  record {
    content = λ c. at_model grammar.footnote_definition g (content c) f.0.0 refl;
    whole = λ i. has_required (f.0.0 i) g.stood g.is_numbered;
    in_table = f.1;
    numbered = λ x. no x;
  },
  refl,
  refl,
)
skipped definition definition_destination g h f = ((f.0, f.2, f.3), refl, refl)
skipped definition definition_title g h f = ((f.0, f.3), refl, refl)
skipped definition endings g h f = ((takes_ending definition g refl f, whole definition g refl f), refl, refl)
skipped definition_destination definition_title g h f = ((f.0, f.2), refl, refl)
skipped definition_destination endings g h f = ((takes_ending definition_destination g refl f, whole definition_destination g refl f), refl, refl)
skipped definition_title endings g h f = ((takes_ending definition_title g refl f, whole definition_title g refl f), refl, refl)
skipped media media_target g h f = ((f.0, f.2, f.3), refl, refl)
skipped media endings g h f = ((takes_ending media g refl f, whole media g refl f), refl, refl)
skipped media_target endings g h f = ((takes_ending media_target g refl f, whole media_target g refl f), refl, refl)
skipped resource resource_title g h f = ((f.0, f.2), refl, refl)
skipped resource endings g h f = ((takes_ending resource g refl f, whole resource g refl f), refl, refl)
skipped resource_title endings g h f = ((takes_ending resource_title g refl f, whole resource_title g refl f), refl, refl)
skipped reference endings g h f = ((takes_ending reference g refl f, whole reference g refl f), refl, refl)
skipped footnote_call nothing g h f = (whole footnote_call g refl f, refl, refl)
skipped _ _ g h f = no h
