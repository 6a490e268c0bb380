-- The ends of HTML tags that are known to be missing from a text, so that no search for one is made twice.
use Rattle.std.specs.Prelude.{◌≡◌, ◌≤◌, ◌<◌, ℕ, List, Option, MatchOption, IfSome, ◌++◌, codes, drop, length}
use Rattle.commonmark_syntax.specs.Cuts.{IsCut}
use Rattle.commonmark_syntax.specs.Language.{IsNotAt, Leaves, Syntax}
use Rattle.commonmark_syntax.specs.declared.html_tag.MissingEnds.{MissingEnds}

-- These bytes do not occur in a text from an offset on.
abbrev pub IsMissing : List ℕ → List ℕ → ℕ → Type 0
IsMissing w text from = (before after : List ℕ) → drop from text ≡ before ++ (w ++ after) → ⊥

pub record AreMissing (text : List ℕ) (missing : MissingEnds) : Type 0 where
  pub comment : IsMissing (codes "-->") text missing.comment
  pub instruction : IsMissing (codes "?>") text missing.instruction
  pub declaration : IsMissing (codes ">") text missing.declaration
  pub cdata : IsMissing (codes "]]>") text missing.cdata

-- the result of a scanner of HTML for a text
pub record IsScanned (a : Syntax) (s : List ℕ) (result : Option ℕ) : Type 0 where
  pub exact : MatchOption result (IsNotAt a s) (λ size. Leaves a s (drop size s))
  pub most : IfSome result (λ size. size ≤ length s)
  pub least : IfSome result (λ size. 2 < size)
  pub cut : IfSome result (λ size. IsCut s size)
