-- What acceptance asks of a span is what the steps ask of it.
use Rattle.std.proofs.Common.{◌≡◌, Bool, false, ◌&&◌, ◌||◌, List, [], ◌∷◌, is_some, not, refl, sym, ap, ◌∙◌}
use Rattle.std.proofs.Math.Bool.{and_assoc}
use Rattle.std.specs.List.{list_all, list_any}
use Rattle.markdown_events.specs.declared.event.Point.{Point}
use Rattle.markdown_events.specs.declared.role.ItemKind.{ItemKind}
use Rattle.markdown_events.specs.declared.role.Part.{Part}
use Rattle.markdown_events.specs.declared.role.Part.TheVariants as parts
use Rattle.markdown_grammar.specs.Document.{Source, byte_at}
use Rattle.markdown_grammar.specs.Grammar.{ContentModel, character_reference, code_fenced, heading_atx, heading_setext, list_ordered, math_flow, model_of, rules}
use Rattle.markdown_grammar.specs.Items.{is_frontmatter, is_line_ending, is_table}
use Rattle.markdown_grammar.specs.Values.{is_read}
use Rattle.markdown_grammar.specs.declared.error_kind.ErrorKind.{ErrorKind}
use Rattle.markdown_grammar.specs.declared.error_kind.ErrorKind.TheVariants.{InvalidSlice, Misplaced}
use Rattle.markdown_events.proofs.Booleans.{and-true}
use Rattle.markdown_steps.proofs.ItemSteps.{passes-rules}
use Rattle.markdown_steps.specs.Checks.{passes}
use Rattle.markdown_steps.specs.Compiler.{ContainerState, all_stood, allows_after, enter_checks, entered, exit_checks, has_stood, nothing_yet}
use Rattle.markdown_steps.specs.Summaries.{Summary}
use Rattle.markdown_acceptance.specs.ContentModels.{grammar_model}
use Rattle.markdown_acceptance.specs.PartSets.{contains}
use Rattle.markdown_acceptance.specs.Rules.{has_required, requires_nothing}
use Rattle.markdown_acceptance.specs.Shown.{Shows}
use Rattle.markdown_acceptance.specs.Sites.{is_complete, may_enter, reads, takes_empty}
use Rattle.markdown_acceptance.specs.declared.site.Site.{Site}

-- what is asked where a span begins
pub enter-is : (s : Source) (site : Site) (c : ContainerState) (what : ItemKind) (start : Point) → Shows site c → passes (enter_checks s c what start) ≡ may_enter s.bytes site what start
enter-is s site c what start h =
    let first_byte : Bool = not (is_frontmatter what) || is_some (byte_at s.bytes start) in
    let others : List (Bool × ErrorKind) = (not (c.place.in_table && is_table what), Misplaced) ∷ (first_byte, InvalidSlice) ∷ [] in
    ap (λ b. (not c.after_break || is_line_ending what) && b) (passes-rules c.initial_model (rules c.initial_model) c.inner what others)
    ∙ (λ t. (not (h.after_break t) || is_line_ending what)
    && (list_all (λ rule. allows_after (λ ps. list_any (λ p. h.stood p t) ps) rule what) (rules (h.initial_model t)) && (not ((h.place t).in_table && is_table what) && and-true first_byte t)))

-- what has to stand in a container
required-is : (h : ContentModel) (i : Summary) (stood : Part → Bool) (numbered : Bool) → ((p : Part) → has_stood p i ≡ stood p) → is_some i.value ≡ numbered → all_stood h i ≡ has_required h stood numbered
required-is character_reference i stood numbered parts_are value_is = parts_are parts.CharacterReferenceValue
required-is heading_atx i stood numbered parts_are value_is = parts_are parts.HeadingAtxSequence
required-is heading_setext i stood numbered parts_are value_is = parts_are parts.HeadingSetextUnderlineSequence
required-is code_fenced i stood numbered parts_are value_is = parts_are parts.CodeFencedFence
required-is math_flow i stood numbered parts_are value_is = parts_are parts.MathFlowFence
required-is list_ordered i stood numbered parts_are value_is = value_is
required-is _ i stood numbered parts_are value_is = refl

-- what is asked where a span ends, by the site around it and the one in it
pub exit-is : (s : Source) (site own : Site) (c o : ContainerState) (what : ItemKind) (a b : Point) → Shows site c → Shows own o → passes (exit_checks s c what a b o) ≡ (is_complete own && reads s site what a b)
exit-is s site own c o what a b h k =
    (λ t. not (k.after_break t)
    && (required-is o.initial_model o.inner (contains own.stood) own.is_numbered k.stood k.value t && and-true (is_read s c.model c.place c.after_break what a b) t))
    ∙ (λ t. not own.after_break && (has_required (k.initial_model t) (contains own.stood) own.is_numbered && is_read s (h.model t) (h.place t) (h.after_break t) what a b))
    ∙ sym (and_assoc (not own.after_break) (has_required (grammar_model own.initial_model) (contains own.stood) own.is_numbered) (reads s site what a b))

-- what is asked where a span ends in which nothing stands
pub empty_exit-is : (s : Source) (site : Site) (c : ContainerState) (what : ItemKind) (a b : Point) → Shows site c → passes (exit_checks s c what a b (entered c what)) ≡ (takes_empty site what && reads s site what a b)
empty_exit-is s site c what a b h =
    (λ t. required-is (model_of c.model what) nothing_yet (λ p. false) false (λ p. refl) refl t && and-true (is_read s c.model c.place c.after_break what a b) t)
    ∙ (λ t. requires_nothing (model_of (h.model t) what) && is_read s (h.model t) (h.place t) (h.after_break t) what a b)
