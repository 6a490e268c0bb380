-- A text is written in fragments: what needs no escape, and an escape after it.
use Rattle.std.proofs.Common.{◌≡◌, ◌≢◌, ℕ, zero, suc, ◌+◌, ◌<◌, ◌≤◌, List, [], ◌∷◌, ◌++◌, length, take, drop, slice_index, None, Some, refl, subst, sym, ap, ap₂, ◌∙◌, arith, append-nil, append_assoc, nat_eq, nat_lt, false}
use Rattle.std.specs.Prelude.{slice_get}
use Rattle.std.proofs.lemmas.Bool.Decides.{nat_tests}
use Rattle.std.proofs.lemmas.Grind.{flat_map-append}
use Rattle.std.proofs.lemmas.List.{get_or-drop, length-drop, take-append-drop}
use Rattle.std.proofs.Math.Seq.{take-length}
use Rattle.markdown_json.specs.Strings.{escape, escaped}

-- a byte that is no control character, no quote and no backslash
pub plain_byte : (b : ℕ) → 32 ≤ b → b ≢ 34 → b ≢ 92 → escape b ≡ b ∷ []
unfolding escape
plain_byte b high quote backslash =
    let a : nat_eq b 34 ≡ false = grind (arith, nat_tests) in
    let c : nat_eq b 92 ≡ false = grind (arith, nat_tests) in
    let d : nat_eq b 8 ≡ false = grind (arith, nat_tests) in
    let e : nat_eq b 9 ≡ false = grind (arith, nat_tests) in
    let f : nat_eq b 10 ≡ false = grind (arith, nat_tests) in
    let g : nat_eq b 12 ≡ false = grind (arith, nat_tests) in
    let h : nat_eq b 13 ≡ false = grind (arith, nat_tests) in
    let i : nat_lt b 32 ≡ false = grind (arith, nat_tests) in
    rw (a, c, d, e, f, g, h, i) refl

-- bytes that need no escape stand as they are
pub stands : (text : List ℕ) (n : ℕ) → n ≤ length text → ((k : ℕ) → k < n → escape (slice_index text k) ≡ slice_index text k ∷ []) → escaped (take n text) ≡ take n text
stands text zero within plain = refl
stands [] (suc n) within plain = absurd (omega arith)
stands (b ∷ text) (suc n) within plain = ap₂ (λ (s t : List ℕ). s ++ t) (plain 0 (omega arith)) (stands text n (omega arith) (λ k below. plain (suc k) (omega arith)))

-- and so do all of them
pub all_stand : (text : List ℕ) (n : ℕ) → n ≡ length text → ((k : ℕ) → k < n → escape (slice_index text k) ≡ slice_index text k ∷ []) → escaped text ≡ text
all_stand text n all plain =
    let whole : take n text ≡ text = ap (λ (k : ℕ). take k text) all ∙ take-length text in
    sym (ap escaped whole) ∙ stands text n (omega (arith, all)) plain ∙ whole

-- a fragment, the escape of the byte after it, and the rest
pub fragment : (text : List ℕ) (n b : ℕ) (rest : List ℕ) → n ≤ length text → ((k : ℕ) → k < n → escape (slice_index text k) ≡ slice_index text k ∷ []) → drop n text ≡ b ∷ rest → escaped text ≡ take n text ++ (escape b ++ escaped rest)
fragment text n b rest within plain after =
    ap escaped (sym (take-append-drop n text) ∙ ap (λ s. take n text ++ s) after)
    ∙ flat_map-append escape (take n text) (b ∷ rest)
    ∙ ap (λ s. s ++ (escape b ++ escaped rest)) (stands text n within plain)

-- ---- The loop

-- the first byte of what comes after a fragment, if there is one
pub at_end : (text : List ℕ) → slice_get text 0 ≡ None → text ≡ []
at_end [] none = refl
at_end (b ∷ text) none = absurd cc

pub begins : (text : List ℕ) (b : ℕ) → slice_get text 0 ≡ Some b → text ≡ b ∷ drop 1 text
begins [] b some = absurd cc
begins (c ∷ text) b some = let same : c ≡ b = cc in ap (λ x. x ∷ text) same

-- the last fragment
pub ends : (whole out next rest : List ℕ) (n : ℕ) → n ≤ length rest → ((k : ℕ) → k < n → escape (slice_index rest k) ≡ slice_index rest k ∷ []) → drop n rest ≡ [] → next ≡ out ++ take n rest → out ++ escaped rest ≡ whole → next ≡ whole
ends whole out next rest n within plain none next-is so_far =
    let all : take n rest ≡ rest = sym (append-nil (take n rest)) ∙ ap (λ s. take n rest ++ s) (sym none) ∙ take-append-drop n rest in
    next-is
    ∙ ap (λ s. out ++ s) (sym (stands rest n within plain) ∙ ap escaped all)
    ∙ so_far

-- a fragment with an escape after it
pub goes_on : (whole out part written rest later : List ℕ) (n b : ℕ) → n ≤ length rest → ((k : ℕ) → k < n → escape (slice_index rest k) ≡ slice_index rest k ∷ []) → drop n rest ≡ b ∷ later → part ≡ out ++ take n rest → written ≡ part ++ escape b → out ++ escaped rest ≡ whole → written ++ escaped later ≡ whole
goes_on whole out part written rest later n b within plain after part-is written-is so_far =
    ap (λ s. s ++ escaped later) (written-is ∙ ap (λ s. s ++ escape b) part-is)
    ∙ append_assoc (out ++ take n rest) (escape b) (escaped later)
    ∙ append_assoc out (take n rest) (escape b ++ escaped later)
    ∙ ap (λ s. out ++ s) (sym (fragment rest n b later within plain after))
    ∙ so_far

pub some : (text : List ℕ) (b : ℕ) → text ≡ b ∷ drop 1 text → 0 < length text
some [] b is = absurd cc
some (c ∷ text) b is = omega arith

-- the byte after a fragment is that of the text
pub first_is_ascii : (text after : List ℕ) (n b : ℕ) → after ≡ drop n text → after ≡ b ∷ drop 1 after → (n < length text → slice_index text n < 128) → slice_index after 0 < 128
first_is_ascii text after n b back first ascii =
    let there : n < length text = let long = some after b first in let left = ap length back ∙ length-drop n text in omega (arith, long, left) in
    let place : n + 0 ≡ n = omega arith in
    subst (λ c. c < 128) (sym (ap (λ t. slice_index t 0) back ∙ get_or-drop n text 0 0 ∙ ap (λ i. slice_index text i) place)) (ascii there)
