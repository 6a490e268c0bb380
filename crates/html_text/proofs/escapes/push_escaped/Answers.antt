use Rattle.std.proofs.Common.{◌≡◌, ℕ, ◌+◌, ◌<◌, List, ◌++◌, ap, ◌∙◌, drop, get_or, length, refl, sym, arith}
use Rattle.std.proofs.lemmas.List.{drop_more}
use Rattle.std.proofs.lemmas.Str.{IsCharBoundary-start}
use Rattle.html_text.specs.Escapes.{escape, escaped}
use Rattle.html_text.proofs.Fragments.{ends, goes_on}
use Rattle.html_text.proofs.escapes.push_escaped.Goals as goal
use Rattle.html_text.proofs.escapes.push_escaped.Goals.{then-is_escaped+in_ok-push_str+in_ok-push_escape, else-is_escaped}

-- the escape of a byte, and what stands for the rest
next : (text : List ℕ) (at b : ℕ) → at < length text → get_or text at 0 ≡ b → escaped (drop at text) ≡ escape b ++ escaped (drop (at + 1) text)
next text at b within here = ap (λ (t : List ℕ). escaped t) (drop_more text at 0 within) ∙ ap (λ (c : ℕ). escape c ++ escaped (drop (at + 1) text)) here

pub loop-at-init : goal.loop-at-init
loop-at-init c = (omega arith, IsCharBoundary-start c.args.text.now c.utf8.text, refl)

pub loop-at-preserved : goal.loop-at-preserved
loop-at-preserved c =
    let text = c.args.text.now in
    let at = c.loop-at.at in
    let here = ap (λ (t : List ℕ). get_or t at 0) (sym c.as_bytes-bytes.ensures.value) in
    let within : at < length text = (let a = c.loop-at-test.true in let b = c.as_bytes-bytes.ensures.len in omega (arith, a, b)) in
    elim c.if-is_escaped.branch [
      | then-is_escaped+in_ok-push_str+in_ok-push_escape w ↦
          let written = w.in_ok-push_escape.ensures ∙ ap (λ (s : List ℕ). s ++ escape _) w.in_ok-push_str.ensures.bytes in
          rw (w.out-is, w.start-is) (ends _ _ _ _ _ _ _ _ _ _ _ c.loop-at.invariant c.utf8.text within here (c.is_escaped.ensures.ascii w.if-is_escaped.true) w.range.ensures.value written (next text at _ within here))
      | else-is_escaped w ↦
          rw (w.out-is, w.start-is) (goes_on _ _ _ _ _ _ _ _ c.loop-at.invariant within here (next text at _ within here ∙ ap (λ (s : List ℕ). s ++ escaped (drop (at + 1) text)) (c.is_escaped.ensures.plain w.if-is_escaped.false)))
    ]
