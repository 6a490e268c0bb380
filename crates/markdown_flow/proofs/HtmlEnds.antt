-- Each end of an HTML block has the byte `>`.
use Rattle.std.proofs.Common.{◌≡◌, ◌≢◌, ◌<◌, ◌==◌, ◌+◌, ◌++◌, ◌∷◌, ◌∙◌, List, [], ap, arith, false, length, length-append, lit<, refl, slice_index, subst, sym, zero, suc, ℕ}
use Rattle.std.specs.Prelude.{codes}
use Rattle.std.proofs.lemmas.Bool.Decides.{nat_tests}
use Rattle.std.proofs.lemmas.List.{get_or-append-add, get_or_append_left}
use Rattle.commonmark_syntax.proofs.Tests.{or_first, or_second}
use Rattle.commonmark_syntax.proofs.Words.{word_front}
use Rattle.commonmark_syntax.specs.Blocks.{has}
use Rattle.commonmark_syntax.specs.Html.{HasEnd, IsIn, raw_end}
use Rattle.commonmark_syntax.specs.Syntax.{word}
use Rattle.commonmark_syntax.specs.declared.html_block.Kind.{Kind}
use Rattle.commonmark_syntax.specs.declared.html_block.Kind.TheVariants as html

-- the byte is somewhere in a text
abbrev HasByte : List ℕ → Type 0
HasByte s = (k : ℕ) × (k < length s) × (slice_index s k ≡ 62)

-- it is in what comes last in a text
behind : (before rest s : List ℕ) → s ≡ before ++ rest → HasByte rest → HasByte s
behind before rest s e there = (
  length before + there.0,
  subst (λ x. length before + there.0 < length x) (sym e) (omega (arith, length-append {A = ℕ}, there.1)),
  ap (λ x. slice_index x (length before + there.0)) e ∙ get_or-append-add before rest there.0 0 ∙ there.2,
)

-- it is in what comes first in a text
in_front : (w t s : List ℕ) → s ≡ w ++ t → HasByte w → HasByte s
in_front w t s e there = (
  there.0,
  subst (λ x. there.0 < length x) (sym e) (omega (arith, length-append {A = ℕ}, there.1)),
  ap (λ x. slice_index x there.0) e ∙ get_or_append_left w t 0 there.0 there.1 ∙ there.2,
)

in_word : (w s : List ℕ) → HasByte w → IsIn (word w) s → HasByte s
in_word w s there is = behind is.0 is.1 s is.2 (in_front w is.3.0 is.1 (word_front w is.1 is.3.0 is.3.1) there)

in_tag : (s : List ℕ) → IsIn raw_end s → HasByte s
in_tag s is =
    let tag = is.3.1 in
    let after = tag.2 in
    let name = after.1.0 in
    let last = after.2 in
    let code : last.0 ≡ 62 = grind (arith, nat_tests) in
    let here : HasByte after.0 = (0, omega (arith, ap length last.2), ap (λ x. slice_index x 0) last.2 ∙ code) in
    behind is.0 is.1 s is.2 (behind (codes "</") tag.0 is.1 (word_front (codes "</") is.1 tag.0 tag.1) (behind name.0 after.0 tag.0 name.1 here))

in_end : (kind : Kind) (s : List ℕ) → HasEnd kind s → HasByte s
in_end html.Raw s is = in_tag s is
in_end html.Comment s is = in_word (codes "-->") s (2, lit< tt, refl) is
in_end html.Instruction s is = in_word (codes "?>") s (1, lit< tt, refl) is
in_end html.Declaration s is = in_word (codes ">") s (0, lit< tt, refl) is
in_end html.Cdata s is = in_word (codes "]]>") s (2, lit< tt, refl) is
in_end html.Basic s is = absurd is
in_end html.Complete s is = absurd is

-- a text without it has no end
pub no_end : (kind : Kind) (s : List ℕ) → ((k : ℕ) → k < length s → slice_index s k ≢ 62) → HasEnd kind s → ⊥
no_end kind s none is = let byte = in_end kind s is in none byte.0 byte.1 byte.2

-- a byte that is not in a text is nowhere in it
pub nowhere : (c : ℕ) (s : List ℕ) → has c s ≡ false → (k : ℕ) → k < length s → slice_index s k ≢ c
nowhere c [] none k within = absurd (omega arith)
nowhere c (b ∷ bs) none zero within = let differ = or_first (b == c) (has c bs) none in λ same. grind (arith, nat_tests)
nowhere c (b ∷ bs) none (suc k) within = nowhere c bs (or_second (b == c) (has c bs) none) k (omega arith)
