-- Labels of footnote definitions, and footnote calls: a backslash that takes something is no lone one.
use Rattle.std.proofs.Common.{◌≡◌, ℕ, suc, ◌+◌, ◌-◌, ◌<◌, ◌≤◌, true, false, cond, List, [], ◌∷◌, ◌++◌, length, Some, None, refl, inl, inr, ◌∙◌, ap, arith, length-append}
use Rattle.std.specs.Prelude.{codes, option_and_then, slice_index}
use Rattle.commonmark_syntax.specs.Blocks.{begins_taken, footnote_character, footnote_label, footnote_text, in_footnote, is_footnote_text, is_taken, lone_backslash}
use Rattle.commonmark_syntax.specs.Inlines.{footnote_call}
use Rattle.commonmark_syntax.specs.Language.{Reads, Syntax, one, ◌or◌, ◌then◌}
use Rattle.commonmark_syntax.specs.Reading.{are_apart, everything, first_of_class, is_within, kept, read, views}
use Rattle.commonmark_syntax.specs.Syntax.{byte, word}
use Rattle.commonmark_syntax.proofs.Exact.{Exact, Or, exact, exact_many, exact_sequence, left_exact, right_exact, stuck}
use Rattle.commonmark_syntax.proofs.Fronts.{AreBytes}
use Rattle.commonmark_syntax.proofs.Enclosed.{at_seam}
use Rattle.commonmark_syntax.proofs.Sound.{kept_exact}
use Rattle.commonmark_syntax.proofs.Views.{sees}
use Rattle.commonmark_syntax.proofs.Words.{word_front}

abbrev escape : Syntax
escape = byte 92 then one is_taken

abbrev IsAny : List ℕ → Type 0
IsAny t = Unit {0}

escape_exact : (s t : List ℕ) → AreBytes s → Reads escape s t → read escape s ≡ Some t
unfolding are_apart is_within
escape_exact s t bytes r = exact escape everything refl s t bytes r refl

rest_exact : (s t : List ℕ) → AreBytes s → Reads (lone_backslash or one in_footnote) s t → read (lone_backslash or one in_footnote) s ≡ Some t
unfolding are_apart is_within
rest_exact s t bytes r = exact (lone_backslash or one in_footnote) everything refl s t bytes r refl

untaken : (m : List ℕ) → begins_taken m ≡ false → first_of_class is_taken m ≡ None
untaken [] e = refl
untaken (c ∷ u) e = ap (λ b. cond b (Some u) None) e

first_exact : (s m : List ℕ) → AreBytes s → Reads (byte 92) s m → read (byte 92) s ≡ Some m
unfolding are_apart is_within
first_exact s m bytes r = exact (byte 92) everything refl s m bytes r refl

no_escape : (s t : List ℕ) → AreBytes s → Reads (lone_backslash or one in_footnote) s t → read escape s ≡ None
unfolding are_apart is_within
no_escape s t bytes (inl r) = ap (option_and_then (read (one is_taken))) (first_exact s r.0 bytes r.1) ∙ untaken r.0 r.2.0
no_escape s t bytes (inr r) = stuck escape (views (one in_footnote) everything) s refl bytes (sees (one in_footnote) everything s t bytes r refl)

character_exact : (P : List ℕ → Type 0) → Exact footnote_character P
character_exact P s t bytes (inl r) h = left_exact _ (read (lone_backslash or one in_footnote) s) t (escape_exact s t bytes r)
character_exact P s t bytes (inr r) h = right_exact (read escape s) _ t (no_escape s t bytes r) (rest_exact s t bytes r)

-- a label ends where no character is
abbrev IsClosed : List ℕ → Type 0
IsClosed m = (t : List ℕ) × Reads (byte 93) m t

none_closed : (m : List ℕ) → AreBytes m → IsClosed m → read footnote_character m ≡ None
unfolding are_apart is_within
none_closed m bytes r = stuck footnote_character (views (byte 93) everything) m refl bytes (sees (byte 93) everything m r.0 bytes r.1 refl)

text_exact : Exact footnote_text IsClosed
text_exact s t bytes r h =
    ap (option_and_then (kept is_footnote_text s)) (exact_many footnote_character IsClosed refl none_closed (character_exact (Or IsClosed footnote_character)) s t bytes r.1 h)
    ∙ kept_exact is_footnote_text s t r.0

close_exact : Exact (word (codes "]:")) IsAny
unfolding are_apart is_within
close_exact s t bytes r h = exact (word (codes "]:")) everything refl s t bytes r refl

open_exact : Exact (word (codes "[^")) IsAny
unfolding are_apart is_within
open_exact s t bytes r h = exact (word (codes "[^")) everything refl s t bytes r refl

pub footnote_exact : (s t : List ℕ) → AreBytes s → Reads footnote_label s t → read footnote_label s ≡ Some t
footnote_exact s t bytes r =
    exact_sequence (word (codes "[^")) (footnote_text then word (codes "]:")) IsAny IsAny open_exact
    (exact_sequence footnote_text (word (codes "]:")) IsClosed IsAny text_exact close_exact (λ m u b q h. (q.0, q.1)))
    (λ m u b q h. tt) s t bytes r tt

bracket_exact : Exact (byte 93) IsAny
unfolding are_apart is_within
bracket_exact s t bytes r h = exact (byte 93) everything refl s t bytes r refl

pub call_exact : (s t : List ℕ) → AreBytes s → Reads footnote_call s t → read footnote_call s ≡ Some t
call_exact s t bytes r =
    exact_sequence (word (codes "[^")) (footnote_text then byte 93) IsAny IsAny open_exact
    (exact_sequence footnote_text (byte 93) IsClosed IsAny text_exact bracket_exact (λ m u b q h. (u, q)))
    (λ m u b q h. tt) s t bytes r tt

-- its bytes
abbrev Whole : List ℕ → List ℕ → Type 0
Whole s t = (w : List ℕ) × (s ≡ 91 ∷ 94 ∷ (w ++ (93 ∷ 58 ∷ t))) × (1 ≤ length w)

filled : (w : List ℕ) → is_footnote_text w ≡ true → 1 ≤ length w
filled [] e = cc
filled (c ∷ w) e = omega arith

whole : (s t : List ℕ) → Reads footnote_label s t → Whole s t
whole s t r =
    let inside = r.2.1.0 in (
      inside.0,
      word_front (codes "[^") s r.0 r.1 ∙ ap (λ (x : List ℕ). 91 ∷ 94 ∷ x) (inside.1 ∙ ap (λ (x : List ℕ). inside.0 ++ x) (word_front (codes "]:") r.2.0 t r.2.2)),
      filled inside.0 inside.2,
    )

pub footnote_least : (s t : List ℕ) → Reads footnote_label s t → 4 < length s - length t
footnote_least s t r = let x : Whole s t = whole s t r in omega (arith, ap length x.1, x.2, length-append {A = ℕ})

pub footnote_opening : (s t : List ℕ) → Reads footnote_label s t → (slice_index s 0 ≡ 91) × (slice_index s 1 ≡ 94)
footnote_opening s t r = let x : Whole s t = whole s t r in (ap (λ y. slice_index y 0) x.1, ap (λ y. slice_index y 1) x.1)

second_seam : (w : List ℕ) (c d : ℕ) (t : List ℕ) → slice_index (w ++ (c ∷ d ∷ t)) (length w + 1) ≡ d
second_seam [] c d t = refl
second_seam (a ∷ w) c d t = let k : length (a ∷ w) + 1 ≡ suc (length w + 1) = omega arith in ap (slice_index ((a ∷ w) ++ (c ∷ d ∷ t))) k ∙ second_seam w c d t

pub footnote_closing : (s t : List ℕ) → Reads footnote_label s t → (slice_index s (length s - length t - 2) ≡ 93) × (slice_index s (length s - length t - 1) ≡ 58)
footnote_closing s t r =
    let x : Whole s t = whole s t r in
    let first : length s - length t - 2 ≡ length (91 ∷ 94 ∷ x.0) = omega (arith, ap length x.1, length-append {A = ℕ}) in
    let second : length s - length t - 1 ≡ length (91 ∷ 94 ∷ x.0) + 1 = omega (arith, ap length x.1, length-append {A = ℕ}) in (
      ap (slice_index s) first ∙ ap (λ y. slice_index y (length (91 ∷ 94 ∷ x.0))) x.1 ∙ at_seam (91 ∷ 94 ∷ x.0) 93 (58 ∷ t),
      ap (slice_index s) second ∙ ap (λ y. slice_index y (length (91 ∷ 94 ∷ x.0) + 1)) x.1 ∙ second_seam (91 ∷ 94 ∷ x.0) 93 58 t,
    )
