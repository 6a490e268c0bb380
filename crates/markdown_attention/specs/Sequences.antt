-- The sequences that are marked in a content: their places, and that they are balanced.
use Rattle.std.specs.Prelude.{◌≡◌, ℕ, ◌+◌, ◌≤◌, ◌⊎◌, List, [], ◌∷◌}
use Rattle.markdown_attention.specs.Emphasis.{DelimiterRun, kind_size}
use Rattle.markdown_attention.specs.declared.delimiter.AttentionKind.{AttentionKind}
use Rattle.markdown_attention.specs.declared.delimiter.Delimiter.{Delimiter}
use Rattle.markdown_attention.specs.declared.delimiter.Delimiter.TheVariants.{Data, Opening, Closing}

-- The delimiters of a content nest: read from left to right, with the kinds that are open, the innermost first, each closing sequence
-- closes the innermost one, and nothing is open at the end.
abbrev pub AreBalanced : List AttentionKind → List Delimiter → Type 0
AreBalanced [] [] = Unit {0}
AreBalanced (kind ∷ kinds) [] = ⊥
AreBalanced kinds (Data ∷ delimiters) = AreBalanced kinds delimiters
AreBalanced kinds (Opening kind ∷ delimiters) = AreBalanced (kind ∷ kinds) delimiters
AreBalanced [] (Closing kind ∷ delimiters) = ⊥
AreBalanced (open_kind ∷ kinds) (Closing kind ∷ delimiters) = (open_kind ≡ kind) × AreBalanced kinds delimiters

-- A delimiter is a sequence of this kind.
abbrev pub IsSequence : Delimiter → AttentionKind → Type 0
IsSequence delimiter kind = (delimiter ≡ Opening kind) ⊎ (delimiter ≡ Closing kind)

-- A sequence at an offset is within one of these runs.
abbrev pub LiesInRun : List DelimiterRun → ℕ → AttentionKind → Type 0
LiesInRun [] at kind = ⊥
LiesInRun (run ∷ runs) at kind = ((run.first ≤ at) × (at + kind_size kind ≤ run.first + run.left)) ⊎ LiesInRun runs at kind

-- Runs end within this many bytes.
abbrev pub EndWithin : ℕ → List DelimiterRun → Type 0
EndWithin size [] = Unit {0}
EndWithin size (run ∷ runs) = (run.first + run.left ≤ size) × EndWithin size runs
