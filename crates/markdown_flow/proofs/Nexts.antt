-- Where the next line begins.
use Rattle.std.proofs.Common.{◌≡◌, ◌<◌, ◌≤◌, length, subst, sym, ℕ}
use Rattle.markdown_flow.proofs.Lines.{columns-at-another}
use Rattle.markdown_flow.specs.Lines.{HasColumns, IsRest}
use Rattle.markdown_flow.specs.declared.line.Line.{Line}
use Rattle.markdown_flow.specs.declared.line.Source.{Source}

-- it is in the document
pub next_within : (source : Source) (line : Line) (next : ℕ) → line.source ≡ source → next ≡ line.next → next ≤ length source.document.now
next_within source line next same is = subst (λ (n : ℕ). n ≤ length source.document.now) (sym is) (subst (λ (s : Source). line.next ≤ length s.document.now) same (line.whole).within)

-- no column comes before it
pub next_begins : (source : Source) (line : Line) (next : ℕ) → line.source ≡ source → next ≡ line.next → next < length source.document.now → HasColumns source.document.now next 0 0
next_begins source line next same is = subst (λ (n : ℕ). n < length source.document.now → HasColumns source.document.now n 0 0) (sym is)
    (columns-at-another source.document.now line.start line.end line.next (subst (λ (s : Source). IsRest s.document.now line.start line.end line.next) same line.whole))
