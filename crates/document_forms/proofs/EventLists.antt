-- The lines of events, written piece by piece.
use Rattle.std.proofs.Common.{◌≡◌, ℕ, List, [], ◌∷◌, ◌++◌, Option, Result, Ok, Err, IfOk, refl, sym, ap, ap₂, ◌∙◌, subst, append_assoc}
use Rattle.std.specs.Prelude.{IsOkAnd, codes, drop, take}
use Rattle.std.proofs.lemmas.List.{take-append-drop}
use Rattle.std.specs.Io.KnownBytes.{Appends}
use Rattle.event_lines.specs.Written.{event_line, written}
use Rattle.markdown_events.specs.declared.event.Event.{Event}

-- the lines of two lists, one after the other
written_both : (these those : List Event) → written (these ++ those) ≡ written these ++ written those
written_both [] those = refl
written_both (event ∷ these) those =
    ap (λ (l : List ℕ). event_line event ++ (codes "\n" ++ l)) (written_both these those)
    ∙ ap (λ (l : List ℕ). event_line event ++ l) (sym (append_assoc (codes "\n") (written these) (written those)))
    ∙ sym (append_assoc (event_line event) (codes "\n" ++ written these) (written those))

-- those of the first of a list, and those of the others
pub written_split : (size : ℕ) (events first others : List Event) → first ≡ take size events → others ≡ drop size events → written events ≡ written first ++ written others
written_split size events first others front back =
    ap written (sym (take-append-drop size events)) ∙ written_both (take size events) (drop size events) ∙ ap₂ (λ (xs ys : List Event). written xs ++ written ys) (sym front) (sym back)

-- a text is written, and it is that of some lines
pub text_written : {E T : Type 0} (bytes : T → List ℕ) (text : Result T E) (first after : Option (List ℕ)) (lines : List ℕ) → IfOk text (λ t. bytes t ≡ lines) → IsOkAnd text (λ t. Appends first after (bytes t)) → Appends first after lines
text_written bytes (Ok t) first after lines is wrote = subst (λ (l : List ℕ). Appends first after l) is wrote
text_written bytes (Err e) first after lines is wrote = absurd wrote
