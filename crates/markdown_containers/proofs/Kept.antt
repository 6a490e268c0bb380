-- What a container keeps, by what its construct says of itself.
use Rattle.std.proofs.Common.{◌≡◌, ◌≢◌, List, Option, None, Some, Result, refl, sym, subst, true, false, ℕ}
use Rattle.markdown_blocks.specs.declared.code.CodeFenceParts.{CodeFenceParts}
use Rattle.markdown_blocks.specs.declared.math.MathFenceParts.{MathFenceParts}
use Rattle.markdown_parts.specs.PartsSoFar.{after_if}
use Rattle.markdown_containers.specs.Containers.{Keeps, KeepsPart, KeepsWords, current_model_of, is_part_model, is_text_part, part_of, summary_with}
use Rattle.markdown_containers.specs.declared.container.Container.{Container}
use Rattle.markdown_containers.specs.declared.container.Container.TheVariants as containers
use Rattle.markdown_events.specs.declared.event.Point.{Point}
use Rattle.markdown_events.specs.declared.role.ItemKind.{ItemKind}
use Rattle.markdown_events.specs.declared.role.ItemKind.TheVariants.{Part as part}
use Rattle.markdown_events.specs.declared.role.Part.{Part}
use Rattle.markdown_events.specs.declared.role.Part.TheVariants as parts
use Rattle.markdown_grammar.specs.Attributes.{Place}
use Rattle.markdown_grammar.specs.Document.{Source}
use Rattle.markdown_grammar.specs.Buffers.{node_count}
use Rattle.markdown_grammar.specs.Grammar as models
use Rattle.markdown_grammar.specs.Grammar.{ContentModel, code_buffer, code_fenced, leaf, math_buffer, math_flow, part_model}
use Rattle.markdown_grammar.specs.Values.{is_read}
use Rattle.markdown_grammar.specs.declared.error_kind.Stop.{Stop}
use Rattle.markdown_nodes.specs.Tree.{Trees}
use Rattle.markdown_steps.specs.Compiler.{nothing_yet, part_with}
use Rattle.markdown_steps.specs.Summaries.{PartPath, Summary, into, itself}
use Rattle.markdown_steps.specs.Visits.{visits_at_end}

-- a part that is read and kept, where it is known which part it is, and which container takes it
pub part_kept : (s : Source) (i : Summary) (a b : Point) (q r : Part) (old h new k : Container) (x y : Result (Unit {0}) Stop)
    → old ≡ h → q ≡ r → new ≡ k → x ≡ y → KeepsPart s r a b i h k y → KeepsPart s q a b i old new x
part_kept s i a b q r old h new k x y is-old is-part is-new is-result kept =
    subst (λ (z : Part). KeepsPart s z a b i old new x) (sym is-part)
    (subst (λ (z : Container). KeepsPart s r a b i z new x) (sym is-old)
    (subst (λ (z : Container). KeepsPart s r a b i h z x) (sym is-new)
    (subst (λ (z : Result (Unit {0}) Stop). KeepsPart s r a b i h k z) (sym is-result) kept)))

-- the same of a part of which nothing but its text is kept
pub words_kept : (text : List ℕ) (q r : Part) (old h new k : Container)
    → old ≡ h → q ≡ r → new ≡ k → KeepsWords r text h k → KeepsWords q text old new
words_kept text q r old h new k is-old is-part is-new kept =
    subst (λ (z : Part). KeepsWords z text old new) (sym is-part)
    (subst (λ (z : Container). KeepsWords r text z new) (sym is-old)
    (subst (λ (z : Container). KeepsWords r text h z) (sym is-new) kept))

-- the same of a part with parts of its own
pub parts_kept : (s : Source) (p : Place) (a b : Point) (ts : Trees) (q r : Part) (inner j old h new k : Container)
    → old ≡ h → inner ≡ j → q ≡ r → new ≡ k → Keeps s p (part r) a b (summary_with j ts) h k → Keeps s p (part q) a b (summary_with inner ts) old new
parts_kept s p a b ts q r inner j old h new k is-old is-inner is-part is-new kept =
    subst (λ (z : Part). Keeps s p (part z) a b (summary_with inner ts) old new) (sym is-part)
    (subst (λ (z : Container). Keeps s p (part r) a b (summary_with z ts) old new) (sym is-inner)
    (subst (λ (z : Container). Keeps s p (part r) a b (summary_with j ts) z new) (sym is-old)
    (subst (λ (z : Container). Keeps s p (part r) a b (summary_with j ts) h z) (sym is-new) kept)))

-- the same of content, where it is known what stood in it
pub content_kept : (s : Source) (p : Place) (a b : Point) (ts : Trees) (what : ItemKind) (inner j old h new : Container)
    → inner ≡ j → old ≡ h → Keeps s p what a b (summary_with j ts) h new → Keeps s p what a b (summary_with inner ts) old new
content_kept s p a b ts what inner j old h new is-inner is-old kept =
    subst (λ (z : Container). Keeps s p what a b (summary_with z ts) old new) (sym is-inner) (subst (λ (z : Container). Keeps s p what a b (summary_with j ts) z new) (sym is-old) kept)

-- ---- Fences after the first

code_parts : (s : Source) (p : Place) (a b : Point) (f : CodeFenceParts) (way : PartPath)
    → part_of (containers.CodeFenced (record { fence = Some f })) way ≡ part_with s p (part parts.CodeFencedFence) a b nothing_yet (part_of (containers.CodeFenced (record { fence = Some f }))) way
code_parts s p a b f itself = refl
code_parts s p a b f (into parts.CodeFencedFence way) = refl
code_parts s p a b f (into q way) = refl

-- a later fence gives a block of code nothing
pub later_code_fence : (s : Source) (p : Place) (a b : Point) (f : Option CodeFenceParts) → part_model (after_if code_fenced code_buffer f) parts.CodeFencedFence ≡ leaf
    → Keeps s p (part parts.CodeFencedFence) a b nothing_yet (containers.CodeFenced (record { fence = f })) (containers.CodeFenced (record { fence = f }))
later_code_fence s p a b (Some f) later =
    record { initial_model = refl; current_model = refl; marker = refl; kept = code_parts s p a b f; label = refl; mark = refl; value = refl }
later_code_fence s p a b None later = let z : ⊥ = cc in absurd z

math_parts : (s : Source) (p : Place) (a b : Point) (f : MathFenceParts) (way : PartPath)
    → part_of (containers.MathFlow (record { fence = Some f })) way ≡ part_with s p (part parts.MathFlowFence) a b nothing_yet (part_of (containers.MathFlow (record { fence = Some f }))) way
math_parts s p a b f itself = refl
math_parts s p a b f (into parts.MathFlowFence way) = refl
math_parts s p a b f (into q way) = refl

-- a later fence gives a block of math nothing
pub later_math_fence : (s : Source) (p : Place) (a b : Point) (f : Option MathFenceParts) → part_model (after_if math_flow math_buffer f) parts.MathFlowFence ≡ leaf
    → Keeps s p (part parts.MathFlowFence) a b nothing_yet (containers.MathFlow (record { fence = f })) (containers.MathFlow (record { fence = f }))
later_math_fence s p a b (Some f) later =
    record { initial_model = refl; current_model = refl; marker = refl; kept = math_parts s p a b f; label = refl; mark = refl; value = refl }
later_math_fence s p a b None later = let z : ⊥ = cc in absurd z

-- the model of a part in a container, where it is known which part it is, and which container
pub leaf_here : (q r : Part) (old h : Container) → old ≡ h → q ≡ r → part_model (current_model_of old) q ≡ leaf → part_model (current_model_of h) r ≡ leaf
leaf_here q r old h is-old is-part later =
    subst (λ (z : Container). part_model (current_model_of z) r ≡ leaf) is-old (subst (λ (z : Part). part_model (current_model_of old) z ≡ leaf) is-part later)

-- ---- Parts of which nothing but their text is read

-- a part in which content stood is one, but for labels and the text of a heading
pub is_text : (q : Part) → is_part_model q models.any_content ≡ true → q ≢ parts.HeadingSetextText → q ≢ parts.LabelText → q ≢ parts.ReferenceString → q ≢ parts.DefinitionLabelString → q ≢ parts.FootnoteDefinitionLabelString → is_text_part q ≡ true
is_text parts.HeadingSetextText such a b c d e = absurd (a refl)
is_text parts.LabelText such a b c d e = absurd (b refl)
is_text parts.ReferenceString such a b c d e = absurd (c refl)
is_text parts.DefinitionLabelString such a b c d e = absurd (d refl)
is_text parts.FootnoteDefinitionLabelString such a b c d e = absurd (e refl)
is_text parts.DefinitionDestinationString such a b c d e = refl
is_text parts.DefinitionTitleString such a b c d e = refl
is_text parts.ResourceDestinationString such a b c d e = refl
is_text parts.ResourceTitleString such a b c d e = refl
is_text parts.CodeFencedFenceInfo such a b c d e = refl
is_text parts.CodeFencedFenceMeta such a b c d e = refl
is_text parts.MathFlowFenceMeta such a b c d e = refl
is_text q such a b c d e = let z : ⊥ = cc in absurd z

-- its value is always read
pub text_is_read : (s : Source) (h : ContentModel) (p : Place) (q : Part) (a b : Point) → is_text_part q ≡ true → is_read s h p false (part q) a b ≡ true
text_is_read s h p parts.DefinitionDestinationString a b such = refl
text_is_read s h p parts.DefinitionTitleString a b such = refl
text_is_read s h p parts.ResourceDestinationString a b such = refl
text_is_read s h p parts.ResourceTitleString a b such = refl
text_is_read s h p parts.CodeFencedFenceInfo a b such = refl
text_is_read s h p parts.CodeFencedFenceMeta a b such = refl
text_is_read s h p parts.MathFlowFenceMeta a b such = refl
text_is_read s h p q a b such = let z : ⊥ = cc in absurd z

-- and each node in it is looked at once
pub text_visits : (q : Part) (i : Summary) → is_text_part q ≡ true → visits_at_end (part q) i ≡ node_count i.nodes
text_visits parts.DefinitionDestinationString i such = refl
text_visits parts.DefinitionTitleString i such = refl
text_visits parts.ResourceDestinationString i such = refl
text_visits parts.ResourceTitleString i such = refl
text_visits parts.CodeFencedFenceInfo i such = refl
text_visits parts.CodeFencedFenceMeta i such = refl
text_visits parts.MathFlowFenceMeta i such = refl
text_visits q i such = let z : ⊥ = cc in absurd z
