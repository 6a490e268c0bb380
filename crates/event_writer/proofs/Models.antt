-- What may stand in a container of a content model, by the parts that have stood.
use Rattle.std.proofs.Common.{◌≡◌, ◌&&◌, ◌||◌, ◌∙◌, Bool, false, refl, true}
use Rattle.std.specs.List.{list_any}
use Rattle.markdown_events.specs.declared.role.Content.{Content}
use Rattle.markdown_events.specs.declared.role.Content.TheVariants as contents
use Rattle.markdown_events.specs.declared.role.ItemKind.{ItemKind}
use Rattle.markdown_events.specs.declared.role.ItemKind.TheVariants.{Content as content, Part as part}
use Rattle.markdown_events.specs.declared.role.Part.{Part}
use Rattle.markdown_events.specs.declared.role.Part.TheVariants as parts
use Rattle.markdown_grammar.specs.Grammar.{ContentModel, content_model, markers}
use Rattle.markdown_grammar.specs.Grammar as grammar
use Rattle.markdown_acceptance.specs.Rules.{has_required, takes}
use Rattle.event_writer.specs.Standing.{Ground}

-- ---- Tests

pub or_false : (b : Bool) → (b || false) ≡ b
or_false true = refl
or_false false = refl

pub or_true : (b : Bool) → (b || true) ≡ true
or_true true = refl
or_true false = refl

pub and_false : (b : Bool) → (b && false) ≡ false
and_false true = refl
and_false false = refl

pub no : {X : Type 0} → false ≡ true → X
no h = absurd cc

-- ---- Content models

pub at_model : (h : ContentModel) (g : Ground) (what : ItemKind) → g.initial_model ≡ h → takes h g.stood what ≡ true → takes g.initial_model g.stood what ≡ true
at_model h g what e t = (λ i. takes (e i) g.stood what) ∙ t

pub takes_media_label : (s : Part → Bool) → s parts.LabelText ≡ false → s parts.Resource ≡ false → s parts.Reference ≡ false → takes grammar.media s (part parts.LabelText) ≡ true
takes_media_label s a b c = simp (a, b, c)

pub takes_media_resource : (s : Part → Bool) → s parts.Resource ≡ false → s parts.Reference ≡ false → takes grammar.media s (part parts.Resource) ≡ true
takes_media_resource s a b = simp (a, b)

pub takes_media_reference : (s : Part → Bool) → s parts.Resource ≡ false → s parts.Reference ≡ false → takes grammar.media s (part parts.Reference) ≡ true
takes_media_reference s a b = simp (a, b)

pub takes_media_ending : (s : Part → Bool) → takes grammar.media s (content contents.LineEnding) ≡ true
takes_media_ending s = simp or_true

pub takes_code_fence : (s : Part → Bool) → takes grammar.code_fenced s (part parts.CodeFencedFence) ≡ true
takes_code_fence s = simp or_true

pub takes_math_fence : (s : Part → Bool) → takes grammar.math_flow s (part parts.MathFlowFence) ≡ true
takes_math_fence s = simp or_true

pub takes_underline : (s : Part → Bool) → s parts.HeadingSetextUnderlineSequence ≡ false → takes grammar.heading_setext s (part parts.HeadingSetextUnderlineSequence) ≡ true
takes_underline s a = simp (a, or_true)

pub takes_setext_text : (s : Part → Bool) → s parts.HeadingSetextText ≡ false → takes grammar.heading_setext s (part parts.HeadingSetextText) ≡ true
takes_setext_text s a = simp a

pub takes_setext_ending : (s : Part → Bool) → takes grammar.heading_setext s (content contents.LineEnding) ≡ true
takes_setext_ending s = simp or_true

pub takes_marker : (s : Part → Bool) → s parts.CharacterReferenceValue ≡ false → takes grammar.character_reference s (part parts.CharacterReferenceMarker) ≡ true
takes_marker s a = simp (a, or_true)

pub takes_numeric : (s : Part → Bool) → s parts.CharacterReferenceValue ≡ false → takes grammar.character_reference s (part parts.CharacterReferenceMarkerNumeric) ≡ true
takes_numeric s a = simp (a, or_true)

pub takes_hexadecimal : (s : Part → Bool) → s parts.CharacterReferenceValue ≡ false → takes grammar.character_reference s (part parts.CharacterReferenceMarkerHexadecimal) ≡ true
takes_hexadecimal s a = simp (a, or_true)

pub takes_value : (s : Part → Bool) → s parts.CharacterReferenceValue ≡ false → list_any s markers ≡ true → takes grammar.character_reference s (part parts.CharacterReferenceValue) ≡ true
takes_value s a b = simp (a, b)

pub takes_code_content : (s : Part → Bool) (c : Content) → s parts.CodeFencedFence ≡ true → takes grammar.code_fenced s (content c) ≡ true
takes_code_content s c a = simp a

pub takes_math_content : (s : Part → Bool) (c : Content) → s parts.MathFlowFence ≡ true → takes grammar.math_flow s (content c) ≡ true
takes_math_content s c a = simp a

-- what is asked of a number stays, if one has stood
pub whole_more : (h : ContentModel) (s : Part → Bool) (b x : Bool) → has_required h s b ≡ true → has_required h s (b || x) ≡ true
whole_more grammar.list_ordered s true x w = refl
whole_more grammar.list_ordered s false x w = no w
whole_more _ s b x w = w

-- a paragraph takes any content, wherever it stands
pub takes_paragraph : (h : ContentModel) (c : Content) → takes (content_model h contents.Paragraph) (λ p. false) (content c) ≡ true
takes_paragraph grammar.list_item c = refl
takes_paragraph grammar.numbered_item c = refl
takes_paragraph grammar.marked_item c = refl
takes_paragraph grammar.marked_numbered_item c = refl
takes_paragraph _ c = refl

pub whole_paragraph : (h : ContentModel) → has_required (content_model h contents.Paragraph) (λ p. false) false ≡ true
whole_paragraph grammar.list_item = refl
whole_paragraph grammar.numbered_item = refl
whole_paragraph grammar.marked_item = refl
whole_paragraph grammar.marked_numbered_item = refl
whole_paragraph _ = refl
