-- Texts from which little is cut, or nothing.
use Rattle.std.proofs.Common.{◌≡◌, ◌<◌, ℕ, ◌==◌, ◌&&◌, ◌||◌, Bool, true, false, not, nat_lt, ◌-◌, if◌then◌else◌, List, [], ◌∷◌, ◌++◌, length, take, reverse, slice_index, refl, sym, ap, subst, ◌∙◌, arith, length-append, append_assoc}
use Rattle.std.specs.List.{list_all}
use Rattle.std.specs.String.Boundary.{IsSplitPoint}
use Rattle.std.proofs.lemmas.Bool.Decides.{nat_tests}
use Rattle.std.proofs.lemmas.List.{append-nil, reverse-append, reverse-reverse}
use Rattle.markdown_events.specs.Texts.{is_line_ending, is_space, raw, spaces, starts_with_byte, without_escapes, without_last_line_ending, without_line_ending_reversed, without_padding}
use Rattle.markdown_parts.specs.ValueTexts.{is_kept, is_unpadded}

-- ---- A text that is a value as it stands

none_of : (x y z : Bool) → not (x || y || z) ≡ true → (x ≡ false) × (y ≡ false) × (z ≡ false)
none_of false false false h = (refl, refl, refl)
none_of true y z h = cc
none_of false true z h = cc
none_of false false true h = cc

both : (x y : Bool) → (x && y) ≡ true → (x ≡ true) × (y ≡ true)
both true y h = (refl, h)
both false y h = cc

spaces_step : (x y z : Bool) (b : ℕ) (rest : List ℕ) → x ≡ false → y ≡ false → (if x && z then rest else (if x || y then 32 else b) ∷ rest) ≡ b ∷ rest
spaces_step false false z b rest hx hy = refl
spaces_step true y z b rest hx hy = cc
spaces_step false true z b rest hx hy = cc

spaces_stay : (bs : List ℕ) → list_all is_kept bs ≡ true → spaces bs ≡ bs
spaces_stay [] h = refl
spaces_stay (b ∷ bs) h =
    let parts = both (is_kept b) (list_all is_kept bs) h in
    let kept = none_of (b == 10) (b == 13) (b == 92) parts.0 in
    spaces_step (b == 13) (b == 10) (starts_with_byte 10 bs) b (spaces bs) kept.1 kept.0 ∙ ap (λ (xs : List ℕ). b ∷ xs) (spaces_stay bs parts.1)

escapes_step : (x z : Bool) (b : ℕ) (rest : List ℕ) → x ≡ false → (if x && z then rest else b ∷ rest) ≡ b ∷ rest
escapes_step false z b rest h = refl
escapes_step true z b rest h = cc

escapes_stay : (bs : List ℕ) → list_all is_kept bs ≡ true → without_escapes bs ≡ bs
escapes_stay [] h = refl
escapes_stay (b ∷ bs) h =
    let parts = both (is_kept b) (list_all is_kept bs) h in
    let kept = none_of (b == 10) (b == 13) (b == 92) parts.0 in
    escapes_step (b == 92) (starts_with_byte 124 bs) b (without_escapes bs) kept.2 ∙ ap (λ (xs : List ℕ). b ∷ xs) (escapes_stay bs parts.1)

padding_step : (long first last other : Bool) (cut whole : List ℕ) → not first ≡ true → (if ((long && first) && last) && other then cut else whole) ≡ whole
padding_step true false last other cut whole h = refl
padding_step false false last other cut whole h = refl
padding_step long true last other cut whole h = cc

padding_stays : (bs : List ℕ) → is_unpadded bs ≡ true → without_padding bs ≡ bs
padding_stays [] h = refl
padding_stays (b ∷ bs) h =
    padding_step (nat_lt 2 (length (b ∷ bs))) (b == 32) (starts_with_byte 32 (reverse (b ∷ bs))) (not (list_all is_space (b ∷ bs))) (take (length (b ∷ bs) - 2) bs) (b ∷ bs) h

pub value_stays : (bs : List ℕ) (in_table : Bool) → (is_unpadded bs && list_all is_kept bs) ≡ true → bs ≡ raw (spaces bs) in_table
value_stays bs true h =
    let parts = both (is_unpadded bs) (list_all is_kept bs) h in
    sym (ap (λ (x : List ℕ). without_padding (without_escapes x)) (spaces_stay bs parts.1) ∙ ap without_padding (escapes_stay bs parts.1) ∙ padding_stays bs parts.0)
value_stays bs false h =
    let parts = both (is_unpadded bs) (list_all is_kept bs) h in
    sym (ap without_padding (spaces_stay bs parts.1) ∙ padding_stays bs parts.0)

-- ---- A text without a line ending at its end

-- the bytes that are cut begin with a character of one byte
IsLow : List ℕ → Type 0
IsLow [] = Unit {0}
IsLow (b ∷ bs) = b < 128

record Ends (bs prefix : List ℕ) : Type 0 where
  cut : List ℕ
  is : bs ≡ prefix ++ cut
  low : IsLow cut

nothing_cut : (bs : List ℕ) → Ends bs bs
unfolding IsLow
nothing_cut bs = record { cut = []; is = sym (append-nil bs); low = tt }

choose : (x : Bool) (bs u v : List ℕ) → (x ≡ true → Ends bs (reverse u)) → (x ≡ false → Ends bs (reverse v)) → Ends bs (reverse (if x then u else v))
choose true bs u v f g = f refl
choose false bs u v f g = g refl

low_ending : (b : ℕ) → is_line_ending b ≡ true → b < 128
low_ending b h = grind (arith, nat_tests)

low_return : (b c : ℕ) → (b == 10 && c == 13) ≡ true → c < 128
low_return b c h = let e = (both (b == 10) (c == 13) h).1 in grind (arith, nat_tests)

turned : (b : ℕ) (bs : List ℕ) → reverse (b ∷ bs) ≡ reverse bs ++ b ∷ []
turned b bs = reverse-append (b ∷ []) bs

ends_after : (bs : List ℕ) → Ends (reverse bs) (reverse (without_line_ending_reversed bs))
unfolding IsLow
ends_after [] = nothing_cut []
ends_after (b ∷ []) = choose (is_line_ending b) (b ∷ []) [] (b ∷ []) (λ e. record { cut = b ∷ []; is = refl; low = low_ending b e }) (λ e. nothing_cut (b ∷ []))
ends_after (b ∷ c ∷ bs) =
    choose (b == 10 && c == 13) (reverse (b ∷ c ∷ bs)) bs (if is_line_ending b then c ∷ bs else b ∷ c ∷ bs)
    (λ e. record { cut = c ∷ b ∷ []; is = turned b (c ∷ bs) ∙ ap (λ (xs : List ℕ). xs ++ b ∷ []) (turned c bs) ∙ append_assoc (reverse bs) (c ∷ []) (b ∷ []); low = low_return b c e })
    (λ e. choose (is_line_ending b) (reverse (b ∷ c ∷ bs)) (c ∷ bs) (b ∷ c ∷ bs)
    (λ e'. record { cut = b ∷ []; is = turned b (c ∷ bs); low = low_ending b e' })
    (λ e'. nothing_cut (reverse (b ∷ c ∷ bs))))

ends_at : (bs : List ℕ) → Ends bs (without_last_line_ending bs)
ends_at bs = subst (λ (x : List ℕ). Ends x (without_last_line_ending bs)) (reverse-reverse bs) (ends_after (reverse bs))

taken : (prefix cut : List ℕ) → take (length prefix) (prefix ++ cut) ≡ prefix
taken [] cut = refl
taken (b ∷ prefix) cut = ap (λ (xs : List ℕ). b ∷ xs) (taken prefix cut)

at_seam : (prefix cut : List ℕ) (c : ℕ) → slice_index (prefix ++ c ∷ cut) (length prefix) ≡ c
at_seam [] cut c = refl
at_seam (b ∷ prefix) cut c = at_seam prefix cut c

splits : (prefix cut : List ℕ) → IsLow cut → IsSplitPoint (prefix ++ cut) (length prefix)
unfolding IsLow
splits prefix [] low = (omega (arith, length-append prefix []), λ _ lt _. absurd (omega (arith, length-append prefix [])))
splits prefix (c ∷ cut) low = (omega (arith, length-append prefix (c ∷ cut)), λ _ _ high. absurd (omega (arith, at_seam prefix cut c)))

pub end_splits : (bs kept : List ℕ) → kept ≡ without_last_line_ending bs → IsSplitPoint bs (length kept)
end_splits bs kept is =
    let ends = ends_at bs in
    subst (λ (prefix : List ℕ). IsSplitPoint bs (length prefix)) (sym is)
    (subst (λ (whole : List ℕ). IsSplitPoint whole (length (without_last_line_ending bs))) (sym ends.is) (splits (without_last_line_ending bs) ends.cut ends.low))

pub end_taken : (bs kept : List ℕ) → kept ≡ without_last_line_ending bs → take (length kept) bs ≡ without_last_line_ending bs
end_taken bs kept is =
    let ends = ends_at bs in
    let prefix = without_last_line_ending bs in
    ap (λ (xs : List ℕ). take (length xs) bs) is ∙ ap (take (length prefix)) ends.is ∙ taken prefix ends.cut
