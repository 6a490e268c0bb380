-- Lemmas on what is counted before an offset: that its counts are small, and one byte more.
use Rattle.std.proofs.Common.{◌≡◌, ℕ, ◌+◌, ◌*◌, ◌≤◌, ◌||◌, List, [], ◌∷◌, ◌++◌, Bool, true, false, if◌then◌else◌, length, suc, refl, sym, ap, ◌∙◌, arith}
use Rattle.std.specs.List.{list_any}
use Rattle.std.proofs.lemmas.Bool.Decides.{nat_tests}
use Rattle.std.proofs.lemmas.List.Folds.{list_any-append}
use Rattle.std.proofs.Math.Bool.{or-false}
use Rattle.std.proofs.lemmas.Grind.{common_steps}
use Rattle.markdown_json.specs.declared.utf16.Counts.{Counts}
use Rattle.markdown_json.specs.Utf16.{counts_after, ends_line, last_line, units, units_at}

units_at-le : (b : ℕ) → units_at b ≤ 2
units_at-le b = grind (arith, nat_tests)

-- no byte begins more than two units
units-le : (bytes : List ℕ) → units bytes ≤ 2 * length bytes
units-le [] = omega arith
units-le (b ∷ bytes) = omega (arith, units_at-le b, units-le bytes)

line-le : (later here : Bool) (b : ℕ) (bytes : List ℕ) → length (last_line bytes) ≤ length bytes
    → length (if later then last_line bytes else (if here then bytes else b ∷ bytes)) ≤ suc (length bytes)
line-le true here b bytes le = omega (arith, le)
line-le false true b bytes le = omega arith
line-le false false b bytes le = omega arith

-- the last line is no longer than the text
last_line-le : (bytes : List ℕ) → length (last_line bytes) ≤ length bytes
last_line-le [] = omega arith
last_line-le (b ∷ bytes) = line-le (list_any ends_line bytes) (ends_line b) b bytes (last_line-le bytes)

-- so no count of a text is more than two for each of its bytes
pub counts-le : (counts : Counts) (text : List ℕ) (most : ℕ) → counts ≡ counts_after text → length text ≤ most
    → (counts.units ≤ 2 * most) × (counts.line_bytes ≤ most) × (counts.line_units ≤ 2 * most)
counts-le counts text most is short =
    let all : counts.units ≡ units text = ap (λ (x : Counts). x.units) is in
    let bytes : counts.line_bytes ≡ length (last_line text) = ap (λ (x : Counts). x.line_bytes) is in
    let of_line : counts.line_units ≡ units (last_line text) = ap (λ (x : Counts). x.line_units) is in
    (omega (arith, all, short, units-le text), omega (arith, bytes, short, last_line-le text), omega (arith, of_line, short, units-le (last_line text), last_line-le text))

-- one byte more
units-more : (bytes : List ℕ) (c : ℕ) → units (bytes ++ c ∷ []) ≡ units bytes + units_at c
units-more [] c = omega arith
units-more (b ∷ bytes) c = omega (arith, units-more bytes c)

line-more : (later here ends : Bool) (b c : ℕ) (bytes : List ℕ) → last_line (bytes ++ c ∷ []) ≡ (if ends then [] else last_line bytes ++ c ∷ [])
    → (if (later || ends) then last_line (bytes ++ c ∷ []) else (if here then bytes ++ c ∷ [] else b ∷ (bytes ++ c ∷ [])))
    ≡ (if ends then [] else (if later then last_line bytes else (if here then bytes else b ∷ bytes)) ++ c ∷ [])
line-more true here true b c bytes more = more
line-more true here false b c bytes more = more
line-more false here true b c bytes more = more
line-more false true false b c bytes more = refl
line-more false false false b c bytes more = refl

alone : (ends : Bool) (c : ℕ) → (if ends then [] else c ∷ []) ≡ (if ends then [] else c ∷ [])
alone ends c = refl

ends-alone : (c : ℕ) → list_any ends_line (c ∷ []) ≡ ends_line c
ends-alone c = or-false (ends_line c)

pub last_line-more : (bytes : List ℕ) (c : ℕ) → last_line (bytes ++ c ∷ []) ≡ (if ends_line c then [] else last_line bytes ++ c ∷ [])
last_line-more [] c = refl
last_line-more (b ∷ bytes) c =
    ap (λ (any : Bool). if any then last_line (bytes ++ c ∷ []) else (if ends_line b then bytes ++ c ∷ [] else b ∷ (bytes ++ c ∷ [])))
    (list_any-append ends_line bytes (c ∷ []) ∙ ap (λ (any : Bool). list_any ends_line bytes || any) (ends-alone c))
    ∙ line-more (list_any ends_line bytes) (ends_line b) (ends_line c) b c bytes (last_line-more bytes c)

-- the counts after one byte more
counts-line : (ends : Bool) (c : ℕ) (line : List ℕ) (line_bytes line_units : ℕ) → line_bytes ≡ (if ends then 0 else length line + 1) → line_units ≡ (if ends then 0 else units line + units_at c)
    → (line_bytes ≡ length (if ends then [] else line ++ c ∷ [])) × (line_units ≡ units (if ends then [] else line ++ c ∷ []))
counts-line true c line line_bytes line_units b u = (b, u)
counts-line false c line line_bytes line_units b u = (b ∙ grind (arith, common_steps), u ∙ sym (units-more line c))

pub counts-more : (text : List ℕ) (c : ℕ) (next : Counts) → next.units ≡ units text + units_at c
    → next.line_bytes ≡ (if ends_line c then 0 else length (last_line text) + 1)
    → next.line_units ≡ (if ends_line c then 0 else units (last_line text) + units_at c)
    → next ≡ counts_after (text ++ c ∷ [])
counts-more text c next all bytes of_line =
    let line = counts-line (ends_line c) c (last_line text) next.line_bytes next.line_units bytes of_line in
    let is = last_line-more text c in
    (λ i. record {
      units = (all ∙ sym (units-more text c)) i;
      line_bytes = (line.0 ∙ sym (ap (λ (l : List ℕ). length l) is)) i;
      line_units = (line.1 ∙ sym (ap (λ (l : List ℕ). units l) is)) i;
    })
