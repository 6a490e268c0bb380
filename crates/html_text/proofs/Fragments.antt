-- A text is written in fragments: bytes that stand as they are, and then what stands for one byte.
use Rattle.std.proofs.Common.{◌≡◌, ℕ, ◌+◌, ◌-◌, ◌<◌, ◌≤◌, List, [], ◌∷◌, ◌++◌, length, take, drop, get_or, sym, ap, ◌∙◌, subst, arith, append_assoc}
use Rattle.std.specs.Str.{IsCharBoundary, IsUtf8}
use Rattle.std.proofs.lemmas.List.{get_or-drop, length-drop, take_more}
use Rattle.std.proofs.lemmas.Str.{IsCharBoundary-after_ascii}

-- the bytes that are still to be written as they are
abbrev pub fragment : List ℕ → ℕ → ℕ → List ℕ
fragment text start at = take (at - start) (drop start text)

-- what is written, the fragment that is not yet written, and what stands for the rest of the text are the whole
abbrev pub Fragments : (whole out text : List ℕ) → (start at : ℕ) → (rest : List ℕ) → Type 0
Fragments whole out text start at rest = (start ≤ at) × IsCharBoundary text start × (out ++ (fragment text start at ++ rest) ≡ whole)

-- a byte that stands as it is makes the fragment longer
longer : (text : List ℕ) (start at : ℕ) → start ≤ at → at < length text → fragment text start (at + 1) ≡ fragment text start at ++ get_or text at 0 ∷ []
longer text start at low within =
    let more : (at + 1) - start ≡ (at - start) + 1 = omega (arith, low) in
    let there : at - start < length (drop start text) = rw (length-drop start text) (omega (arith, low, within)) in
    let byte : get_or (drop start text) (at - start) 0 ≡ get_or text at 0 = get_or-drop start text (at - start) 0 ∙ ap (λ (i : ℕ). get_or text i 0) (let e : start + (at - start) ≡ at = omega (arith, low) in e) in
    ap (λ (n : ℕ). take n (drop start text)) more
    ∙ take_more (drop start text) (at - start) 0 there
    ∙ ap (λ (b : ℕ). fragment text start at ++ b ∷ []) byte

-- a byte that stands as it is
pub goes_on : (whole out text rest after : List ℕ) (b start at : ℕ) → Fragments whole out text start at rest → at < length text → get_or text at 0 ≡ b → rest ≡ (b ∷ []) ++ after → Fragments whole out text start (at + 1) after
goes_on whole out text rest after b start at so_far within here is = (
  omega (arith, so_far.0),
  so_far.1,
  ap (λ (s : List ℕ). out ++ (s ++ after)) (longer text start at so_far.0 within ∙ ap (λ (c : ℕ). fragment text start at ++ c ∷ []) here)
      ∙ ap (λ (s : List ℕ). out ++ s) (append_assoc (fragment text start at) (b ∷ []) after ∙ ap (λ (s : List ℕ). fragment text start at ++ s) (sym is))
      ∙ so_far.2,
)

-- what stands for an ASCII byte, after a fragment
pub ends : (whole out part piece written text rest after : List ℕ) (b start at : ℕ) → Fragments whole out text start at rest → IsUtf8 text → at < length text → get_or text at 0 ≡ b → b < 128 → part ≡ fragment text start at → written ≡ (out ++ part) ++ piece → rest ≡ piece ++ after → Fragments whole written text (at + 1) (at + 1) after
ends whole out part piece written text rest after b start at so_far utf8 within here ascii cut is stands =
    let none : fragment text (at + 1) (at + 1) ≡ [] = ap (λ (n : ℕ). take n (drop (at + 1) text)) (let e : (at + 1) - (at + 1) ≡ 0 = omega arith in e) in (
      (let now : at + 1 ≤ at + 1 = omega arith in now),
      IsCharBoundary-after_ascii text at utf8 within (subst (λ (c : ℕ). c < 128) (sym here) ascii),
      ap (λ (s : List ℕ). written ++ (s ++ after)) none
          ∙ ap (λ (s : List ℕ). s ++ after) is
          ∙ append_assoc (out ++ part) piece after
          ∙ append_assoc out part (piece ++ after)
          ∙ ap (λ (s : List ℕ). out ++ (s ++ (piece ++ after))) cut
          ∙ ap (λ (s : List ℕ). out ++ (fragment text start at ++ s)) (sym stands)
          ∙ so_far.2,
    )
