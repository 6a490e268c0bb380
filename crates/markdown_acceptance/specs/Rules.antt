-- The rules of a container, given the parts that have occurred in it.
use Rattle.std.specs.Prelude.{Bool, false, true}
use Rattle.std.specs.List.{list_all, list_any}
use Rattle.markdown_events.specs.declared.role.ItemKind.{ItemKind}
use Rattle.markdown_events.specs.declared.role.Part.{Part}
use Rattle.markdown_events.specs.declared.role.Part.TheVariants as parts
use Rattle.markdown_grammar.specs.Grammar.{ContentModel, character_reference, code_fenced, heading_atx, heading_setext, list_ordered, math_flow, rules}
use Rattle.markdown_steps.specs.Compiler.{allows_after}

-- one more item keeps the rules of a content model, after these parts
abbrev pub takes : ContentModel → (Part → Bool) → ItemKind → Bool
takes h stood what = list_all (λ rule. allows_after (λ ps. list_any stood ps) rule what) (rules h)

-- the container has what it requires: a part, or for an ordered list a number
abbrev pub has_required : ContentModel → (Part → Bool) → Bool → Bool
has_required character_reference stood numbered = stood parts.CharacterReferenceValue
has_required heading_atx stood numbered = stood parts.HeadingAtxSequence
has_required heading_setext stood numbered = stood parts.HeadingSetextUnderlineSequence
has_required code_fenced stood numbered = stood parts.CodeFencedFence
has_required math_flow stood numbered = stood parts.MathFlowFence
has_required list_ordered stood numbered = numbered
has_required _ stood numbered = true

-- the container requires nothing
abbrev pub requires_nothing : ContentModel → Bool
requires_nothing h = has_required h (λ p. false) false
