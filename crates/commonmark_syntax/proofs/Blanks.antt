-- Spaces, tabs, and up to one line ending.
use Rattle.std.proofs.Common.{◌≡◌, ◌≢◌, ℕ, ◌+◌, ◌⊎◌, Bool, true, false, cond, List, [], ◌∷◌, ◌++◌, drop, Some, None, refl, inl, inr, sym, subst, ◌∙◌, ap, ◌==◌}
use Rattle.std.specs.Prelude.{option_and_then, slice_index, ◌&&◌}
use Rattle.std.specs.Option.{option_or}
use Rattle.std.proofs.lemmas.List.{drop-drop}
use Rattle.commonmark_syntax.specs.Language.{many, one, optional, some, ◌then◌}
use Rattle.commonmark_syntax.specs.Reading.{behind_run, greedy, read}
use Rattle.commonmark_syntax.specs.Syntax.{blanks, ends_blank, has_blank_line, is_blank, new_line, some_blanks}
use Rattle.commonmark_syntax.proofs.Loops.{many_is_all}
use Rattle.commonmark_syntax.proofs.Sound.{greedy_go, greedy_stop}
use Rattle.commonmark_syntax.proofs.Tests.{and_both, cases_bool, or_left, or_right, same_number}

-- a line ending comes first, or none does
line_here : (c : ℕ) (u v : List ℕ) → (c == 10) ≡ true → read (many (one is_blank)) u ≡ Some v → read (optional new_line) (c ∷ u) ≡ Some v
line_here c u v e h =
    let f : read new_line (c ∷ u) ≡ Some v = ap (λ b. option_and_then (read (many (one is_blank))) (cond b (Some u) None)) e ∙ h in
    ap Some (greedy_go (read new_line) 0 (c ∷ u) v f)

no_line_here : (c : ℕ) (u : List ℕ) → (c == 10) ≡ false → read (optional new_line) (c ∷ u) ≡ Some (c ∷ u)
no_line_here c u e =
    let f : read new_line (c ∷ u) ≡ None = ap (λ b. option_and_then (read (many (one is_blank))) (cond b (Some u) None)) e in
    ap Some (greedy_stop (read new_line) 1 (c ∷ u) f)

no_line : (x : List ℕ) → slice_index x 0 ≢ 10 → read (optional new_line) x ≡ Some x
no_line [] other = refl
no_line (c ∷ u) other = elim (cases_bool (c == 10)) [
  | inl e ↦ absurd (other (same_number c 10 e))
  | inr e ↦ no_line_here c u e
]

blanks_by : (s x y : List ℕ) → read (many (one is_blank)) s ≡ Some x → read (optional new_line) x ≡ Some y → read blanks s ≡ Some y
blanks_by s x y first second = ap (option_and_then (read (optional new_line))) first ∙ second

-- as they are counted: up to a byte that is no line ending, or with what comes after one
pub blanks_short : (s : List ℕ) (n : ℕ) → read (many (one is_blank)) s ≡ Some (drop n s) → slice_index (drop n s) 0 ≢ 10 → read blanks s ≡ Some (drop n s)
blanks_short s n first other = blanks_by s (drop n s) (drop n s) first (no_line (drop n s) other)

line_after : (x v : List ℕ) → slice_index x 0 ≡ 10 → read (many (one is_blank)) (drop 1 x) ≡ Some v → read (optional new_line) x ≡ Some v
line_after [] v feed h = cc
line_after (c ∷ u) v feed h = line_here c u v (ap (λ x. x == 10) feed) h

pub blanks_long : (s : List ℕ) (n k : ℕ) → read (many (one is_blank)) s ≡ Some (drop n s) → slice_index (drop n s) 0 ≡ 10 → read (many (one is_blank)) (drop (n + 1) s) ≡ Some (drop k (drop (n + 1) s)) → read blanks s ≡ Some (drop (n + 1 + k) s)
blanks_long s n k first feed second =
    blanks_by s (drop n s) (drop (n + 1 + k) s) first (line_after (drop n s) (drop (n + 1 + k) s) feed
    (ap (read (many (one is_blank))) (drop-drop 1 n s) ∙ second ∙ ap Some (drop-drop k (n + 1) s)))

-- Where they are read twice, a blank line is there, or nothing is read the second time.
behind : (s : List ℕ) → read (many (one is_blank)) s ≡ Some (behind_run is_blank s)
behind s = many_is_all is_blank s

-- all blanks, and something else after them
behind_again : (s : List ℕ) → behind_run is_blank (behind_run is_blank s) ≡ behind_run is_blank s
behind_again [] = refl
behind_again (c ∷ u) = elim (cases_bool (is_blank c)) [
  | inl e ↦ ap (λ (b : Bool). behind_run is_blank (cond b (behind_run is_blank u) (c ∷ u))) e ∙ behind_again u ∙ sym (ap (λ (b : Bool). cond b (behind_run is_blank u) (c ∷ u)) e)
  | inr e ↦
      let stays : behind_run is_blank (c ∷ u) ≡ c ∷ u = ap (λ (b : Bool). cond b (behind_run is_blank u) (c ∷ u)) e in
      ap (behind_run is_blank) stays
]

blank_ends : (u : List ℕ) → slice_index (behind_run is_blank u) 0 ≡ 10 → ends_blank u ≡ true
blank_ends [] feed = cc
blank_ends (c ∷ u) feed = elim (cases_bool (is_blank c)) [
  | inl e ↦
      let more : ends_blank u ≡ true = blank_ends u (sym (ap (λ (b : Bool). slice_index (cond b (behind_run is_blank u) (c ∷ u)) 0) e) ∙ feed) in
      or_right (c == 10) _ (and_both _ _ e more)
  | inr e ↦
      let first : c ≡ 10 = sym (ap (λ (b : Bool). slice_index (cond b (behind_run is_blank u) (c ∷ u)) 0) e) ∙ feed in
      or_left _ _ (ap (λ x. x == 10) first)
]

pub blank_line_later : (w t : List ℕ) → has_blank_line t ≡ true → has_blank_line (w ++ t) ≡ true
blank_line_later [] t e = e
blank_line_later (c ∷ w) t e = or_right ((c == 10) && ends_blank (w ++ t)) _ (blank_line_later w t e)

blank_line_behind : (s : List ℕ) → has_blank_line (behind_run is_blank s) ≡ true → has_blank_line s ≡ true
blank_line_behind [] e = e
blank_line_behind (c ∷ u) e = elim (cases_bool (is_blank c)) [
  | inl h ↦ or_right ((c == 10) && ends_blank u) _ (blank_line_behind u (sym (ap (λ (b : Bool). has_blank_line (cond b (behind_run is_blank u) (c ∷ u))) h) ∙ e))
  | inr h ↦ sym (ap (λ (b : Bool). has_blank_line (cond b (behind_run is_blank u) (c ∷ u))) h) ∙ e
]

-- what is left by the optional line ending
abbrev Rest : List ℕ → Type 0
Rest x = (read (optional new_line) x ≡ Some x × (slice_index x 0 ≢ 10)) ⊎ ((u : List ℕ) × (x ≡ 10 ∷ u) × (read (optional new_line) x ≡ Some (behind_run is_blank u)))

rest_of : (x : List ℕ) → Rest x
rest_of [] = inl (refl, λ e. cc)
rest_of (c ∷ u) = elim (cases_bool (c == 10)) [
  | inl e ↦ inr (u, ap (λ y. y ∷ u) (same_number c 10 e), line_here c u (behind_run is_blank u) e (behind u))
  | inr e ↦ inl (no_line_here c u e, λ feed. (let f : (c == 10) ≡ true = ap (λ y. y == 10) feed in cc))
]

blanks_of : (s y : List ℕ) → read (optional new_line) (behind_run is_blank s) ≡ Some y → read blanks s ≡ Some y
blanks_of s y h = blanks_by s (behind_run is_blank s) y (behind s) h

-- Some blanks are blanks that are there.
many_first : (c : ℕ) (u : List ℕ) → is_blank c ≡ true → behind_run is_blank (c ∷ u) ≡ behind_run is_blank u
many_first c u e = ap (λ (b : Bool). cond b (behind_run is_blank u) (c ∷ u)) e

-- after a blank, after a line ending, and after neither
some_of : (c : ℕ) (u : List ℕ) → is_blank c ≡ true → read (some (one is_blank) then optional new_line) (c ∷ u) ≡ read (optional new_line) (behind_run is_blank u)
some_of c u e =
    ap (λ (b : Bool). option_and_then (read (optional new_line)) (option_and_then (read (many (one is_blank))) (cond b (Some u) None))) e
    ∙ ap (option_and_then (read (optional new_line))) (behind u)

no_some : (c : ℕ) (u : List ℕ) → is_blank c ≡ false → read (some (one is_blank) then optional new_line) (c ∷ u) ≡ None
no_some c u e = ap (λ (b : Bool). option_and_then (read (optional new_line)) (option_and_then (read (many (one is_blank))) (cond b (Some u) None))) e

optional_some : (x : List ℕ) → (y : List ℕ) × (read (optional new_line) x ≡ Some y)
optional_some x = (greedy (read new_line) 1 x, refl)

-- blanks are some blanks, or nothing
abbrev pub Either : List ℕ → List ℕ → Type 0
Either b e = (read some_blanks b ≡ Some e) ⊎ ((read some_blanks b ≡ None) × (e ≡ b))

by_optional : (c : ℕ) (u e : List ℕ) → is_blank c ≡ true → read blanks (c ∷ u) ≡ Some e → read some_blanks (c ∷ u) ≡ Some e
by_optional c u e is h =
    let x : (y : List ℕ) × (read (optional new_line) (behind_run is_blank u) ≡ Some y) = optional_some (behind_run is_blank u) in
    let whole : read blanks (c ∷ u) ≡ Some x.0 = blanks_of (c ∷ u) x.0 (ap (read (optional new_line)) (many_first c u is) ∙ x.1) in
    let same : Some x.0 ≡ Some e = sym whole ∙ h in
    ap (λ o. option_or o (read new_line (c ∷ u))) (some_of c u is ∙ x.1 ∙ same)

pub either : (b e : List ℕ) → read blanks b ≡ Some e → Either b e
either [] e h = inr (refl, cc)
either (c ∷ u) e h = elim (cases_bool (is_blank c)) [
  | inl is ↦ inl (by_optional c u e is h)
  | inr none ↦
      let stays : behind_run is_blank (c ∷ u) ≡ c ∷ u = ap (λ (b : Bool). cond b (behind_run is_blank u) (c ∷ u)) none in
      let first : read some_blanks (c ∷ u) ≡ read new_line (c ∷ u) = ap (λ o. option_or o (read new_line (c ∷ u))) (no_some c u none) in
      elim (cases_bool (c == 10)) [
        | inl feed ↦
            let line : read new_line (c ∷ u) ≡ Some (behind_run is_blank u) = ap (λ b. option_and_then (read (many (one is_blank))) (cond b (Some u) None)) feed ∙ behind u in
            let whole : read blanks (c ∷ u) ≡ Some (behind_run is_blank u) = blanks_of (c ∷ u) _ (ap (read (optional new_line)) stays ∙ line_here c u _ feed (behind u)) in
            let same : Some (behind_run is_blank u) ≡ Some e = sym whole ∙ h in
            inl (first ∙ line ∙ same)
        | inr other ↦
            let line : read new_line (c ∷ u) ≡ None = ap (λ b. option_and_then (read (many (one is_blank))) (cond b (Some u) None)) other in
            let whole : read blanks (c ∷ u) ≡ Some (c ∷ u) = blanks_of (c ∷ u) _ (ap (read (optional new_line)) stays ∙ no_line_here c u other) in
            let same : Some (c ∷ u) ≡ Some e = sym whole ∙ h in
            inr (first ∙ line, cc)
      ]
]
