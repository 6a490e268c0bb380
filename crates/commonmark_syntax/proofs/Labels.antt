-- A label has at least one character between its brackets.
use Rattle.std.proofs.Common.{◌≡◌, ℕ, ◌+◌, ◌≤◌, List, [], ◌∷◌, length, true, ap, arith, length-append}
use Rattle.commonmark_syntax.specs.Language.{Reads}
use Rattle.commonmark_syntax.specs.Syntax.{is_label_text, link_label}

filled : (w : List ℕ) → is_label_text w ≡ true → 1 ≤ length w
filled [] e = cc
filled (c ∷ w) e = omega arith

pub label_least : (s t : List ℕ) → Reads link_label s t → length t + 3 ≤ length s
label_least s t r =
    let inside = r.2.1.0 in
    omega (arith, ap length r.1.2, ap length inside.1, ap length r.2.2.2, filled inside.0 inside.2, length-append {A = ℕ})
