-- A text that is written in pieces.
use Rattle.std.proofs.Common.{◌≡◌, ℕ, List, [], ◌++◌, Option, None, Some, refl, sym, ap, ◌∙◌, subst, append_assoc, append-nil}
use Rattle.std.specs.Io.KnownBytes.{Appends}

-- one piece more
pub more_written : (first before after : Option (List ℕ)) (done piece bytes : List ℕ) → Appends first before done → Appends before after bytes → bytes ≡ piece
    → Appends first after (done ++ piece)
more_written None before after done piece bytes wrote more is = tt
more_written (Some x) None after done piece bytes wrote more is = absurd wrote
more_written (Some x) (Some y) None done piece bytes wrote more is = absurd more
more_written (Some x) (Some y) (Some z) done piece bytes wrote more is =
    more ∙ ap (λ (l : List ℕ). l ++ bytes) wrote ∙ append_assoc x done bytes ∙ ap (λ (l : List ℕ). x ++ (done ++ l)) is

-- what is left after the piece
pub left_after : (whole done old piece left : List ℕ) → whole ≡ done ++ old → old ≡ piece ++ left → whole ≡ (done ++ piece) ++ left
left_after whole done old piece left is next = is ∙ ap (λ (l : List ℕ). done ++ l) next ∙ sym (append_assoc done piece left)

-- the end, once nothing is left
pub all_written : (first before after : Option (List ℕ)) (whole done left end : List ℕ) → Appends first before done → whole ≡ done ++ left → left ≡ [] → Appends before after end
    → Appends first after (whole ++ end)
all_written first before after whole done left end wrote is none last =
    let all : done ≡ whole = sym (is ∙ ap (λ (l : List ℕ). done ++ l) none ∙ append-nil done) in
    subst (λ (l : List ℕ). Appends first after (l ++ end)) all (more_written first before after done end end wrote last refl)
