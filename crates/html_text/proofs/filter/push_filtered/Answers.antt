use Rattle.std.proofs.Common.{◌≡◌, ℕ, ◌+◌, ◌-◌, ◌<◌, ◌==◌, true, false, List, ◌∷◌, ◌++◌, [], ap, ◌∙◌, codes, drop, get_or, length, refl, sym, take, arith}
use Rattle.std.proofs.Math.Seq.{take-length}
use Rattle.std.proofs.lemmas.Bool.{and_right, ne_eqb}
use Rattle.std.proofs.lemmas.List.{drop_more, length-drop}
use Rattle.std.proofs.lemmas.Str.{IsCharBoundary-start}
use Rattle.html_text.specs.Filter.{filtered, filtered_byte, is_filtered}
use Rattle.html_text.proofs.Fragments.{ends, goes_on}
use Rattle.html_text.proofs.filter.push_filtered.Goals as goal
use Rattle.html_text.proofs.filter.push_filtered.Goals.{then-bytes-at-eq60+then-is_filtered+in_ok-push_str+in_ok-push_str-2, else-bytes-at-eq60, else-bytes-at-eq60-via-then-bytes-at-eq60+else-is_filtered, else-bytes-at-eq60-via-else-bytes-at-eq60}

-- what stands for a byte, and what stands for the rest
next : (text piece : List ℕ) (at b : ℕ) → at < length text → get_or text at 0 ≡ b → filtered_byte b (drop (at + 1) text) ≡ piece → filtered (drop at text) ≡ piece ++ filtered (drop (at + 1) text)
next text piece at b within here is =
    ap (λ (t : List ℕ). filtered t) (drop_more text at 0 within)
    ∙ ap (λ (c : ℕ). filtered_byte c (drop (at + 1) text) ++ filtered (drop (at + 1) text)) here
    ∙ ap (λ (s : List ℕ). s ++ filtered (drop (at + 1) text)) is

-- a byte, by whether it begins a tag that is filtered
shown : (b : ℕ) (rest : List ℕ) → b ≡ 60 → is_filtered rest ≡ true → filtered_byte b rest ≡ codes "&lt;"
unfolding filtered_byte
shown b rest less is = rw (less, is) refl

kept : (b : ℕ) (rest : List ℕ) → is_filtered rest ≡ false → filtered_byte b rest ≡ b ∷ []
unfolding filtered_byte
kept b rest is = rw (and_right (b == 60) (is_filtered rest) is) refl

other : (b : ℕ) (rest : List ℕ) → (b ≡ 60 → ⊥) → filtered_byte b rest ≡ b ∷ []
unfolding filtered_byte
other b rest less = rw (ne_eqb b 60 less) refl

-- the bytes after one, as the code takes them
after : (bytes text : List ℕ) (at : ℕ) → bytes ≡ text → take (length bytes - (at + 1)) (drop (at + 1) bytes) ≡ drop (at + 1) text
after bytes text at same =
    ap (λ (n : ℕ). take n (drop (at + 1) bytes)) (sym (length-drop (at + 1) bytes))
    ∙ take-length (drop (at + 1) bytes)
    ∙ ap (λ (t : List ℕ). drop (at + 1) t) same

pub loop-at-init : goal.loop-at-init
loop-at-init c = (omega arith, IsCharBoundary-start c.args.html.now c.utf8.html, refl)

pub loop-at-preserved : goal.loop-at-preserved
loop-at-preserved c =
    let text = c.args.html.now in
    let at = c.loop-at.at in
    let same = c.as_bytes-bytes.ensures.value in
    let here = ap (λ (t : List ℕ). get_or t at 0) (sym same) in
    let later = after c.as_bytes-bytes.result.now text at same in
    let within : at < length text = (let a = c.loop-at-test.true in let b = c.as_bytes-bytes.ensures.len in omega (arith, a, b)) in
    elim c.if-bytes-at-eq60.branch [
      | then-bytes-at-eq60+then-is_filtered+in_ok-push_str+in_ok-push_str-2 w ↦
          let less = here ∙ w.if-bytes-at-eq60.true in
          let is = ap is_filtered (sym later) ∙ sym w.is_filtered.ensures ∙ w.if-is_filtered.true in
          let written = w.in_ok-push_str-2.ensures.bytes ∙ ap (λ (s : List ℕ). s ++ codes "&lt;") w.in_ok-push_str.ensures.bytes in
          rw (w.out-is, w.start-is) (ends _ _ _ _ _ _ _ _ _ _ _ c.loop-at.invariant c.utf8.html within less (omega arith) w.range.ensures.value written (next text (codes "&lt;") at 60 within less (shown 60 (drop (at + 1) text) refl is)))
      | else-bytes-at-eq60 w ↦
          elim w.else-bytes-at-eq60.branch [
            | else-bytes-at-eq60-via-then-bytes-at-eq60+else-is_filtered v ↦
                let is = ap is_filtered (sym later) ∙ sym v.is_filtered.ensures ∙ v.if-is_filtered.false in
                rw (w.out-is, w.start-is) (goes_on _ _ _ _ _ _ _ _ c.loop-at.invariant within here (next text _ at _ within here (kept _ (drop (at + 1) text) is)))
            | else-bytes-at-eq60-via-else-bytes-at-eq60 v ↦
                rw (w.out-is, w.start-is) (goes_on _ _ _ _ _ _ _ _ c.loop-at.invariant within here (next text _ at _ within here (other _ (drop (at + 1) text) v.if-bytes-at-eq60.false)))
          ]
    ]
