-- Cuts of a text, and of the texts in it.
use Rattle.std.proofs.Common.{List, ap, arith, drop, inl, inr, length, length-drop, length-take, subst, suc, sym, take, zero, ℕ, ◌+◌, ◌-◌, ◌<◌, ◌≡◌, ◌≢◌, ◌≤◌, ◌∙◌, ◌⊎◌}
use Rattle.std.proofs.Math.Nat.{eq-or-lt_of_le, lt_of_not-le}
use Rattle.std.proofs.lemmas.Bool.{cases_lt}
use Rattle.std.specs.Prelude.{slice_index, slice_range}
use Rattle.std.specs.Str.{IsCharBoundary, IsUtf8}
use Rattle.std.proofs.lemmas.Str.{IsCharBoundary-start, lead_after_ascii}
use Rattle.std.proofs.Math.Seq.{get_or-drop, get_or-take}
use Rattle.commonmark_syntax.specs.Cuts.{IsCut, IsInLine}

-- the same byte, by two offsets that are equal
at_same : (bytes : List ℕ) (i j : ℕ) → i ≡ j → slice_index bytes i ≡ slice_index bytes j
at_same bytes i j same = ap (slice_index bytes) same

-- an offset past the start of what comes after another is a cut of both texts, or of neither
cut_same : (bytes : List ℕ) (n i m : ℕ) → m ≡ n + suc i → (IsCut (drop n bytes) (suc i) → IsCut bytes m) × (IsCut bytes m → IsCut (drop n bytes) (suc i))
cut_same bytes n i m is =
    let size = length-drop n bytes in
    let before = get_or-drop n bytes i 0 in
    let here = get_or-drop n bytes (suc i) 0 in
    let before_in = at_same (drop n bytes) (suc i - 1) i (omega arith) in
    let before_out = at_same bytes (m - 1) (n + i) (omega arith) in
    let here_out = at_same bytes m (n + suc i) (omega arith) in (
      λ cut some within high. let ascii = cut (omega arith) (omega arith) (omega arith) in omega arith,
      λ cut some within high. let ascii = cut (omega arith) (omega arith) (omega arith) in omega arith,
    )

-- a cut of what comes after a cut is one of the text
pub cut_drop : (bytes : List ℕ) (n i m : ℕ) → m ≡ n + i → IsCut bytes n → IsCut (drop n bytes) i → IsCut bytes m
cut_drop bytes n zero m is first later =
    let same : n ≡ m = omega arith in
    subst (IsCut bytes) same first
cut_drop bytes n (suc i) m is first later = (cut_same bytes n i m is).0 later

-- a cut that is not at the start of what comes after an offset is one of the text
pub cut_later : (bytes : List ℕ) (n i m : ℕ) → m ≡ n + i → 0 < i → IsCut (drop n bytes) i → IsCut bytes m
cut_later bytes n zero m is some later = absurd (omega arith)
cut_later bytes n (suc i) m is some later = (cut_same bytes n i m is).0 later

-- a cut of the text after an offset is one of what comes after the offset
pub cut_rest : (bytes : List ℕ) (n i m : ℕ) → m ≡ n + i → IsCut bytes m → IsCut (drop n bytes) i
cut_rest bytes n zero m is cut = λ some. absurd (omega arith)
cut_rest bytes n (suc i) m is cut = (cut_same bytes n i m is).1 cut

-- an offset within what comes before another is a cut of both texts, or of neither
cut_same_before : (bytes : List ℕ) (n i : ℕ) → i < n → (IsCut (take n bytes) i → IsCut bytes i) × (IsCut bytes i → IsCut (take n bytes) i)
cut_same_before bytes n i less =
    let size = length-take n bytes in
    let before = get_or-take n bytes (i - 1) 0 (omega arith) in
    let here = get_or-take n bytes i 0 less in (
      λ cut some within high. let ascii = cut some (omega arith) (omega arith) in omega arith,
      λ cut some within high. let ascii = cut some (omega arith) (omega arith) in omega arith,
    )

-- a cut of what comes before a cut is one of the text
pub cut_take : (bytes : List ℕ) (n i : ℕ) → i ≤ n → IsCut bytes n → IsCut (take n bytes) i → IsCut bytes i
cut_take bytes n i order end cut = by (eq-or-lt_of_le order)
  where
    by : (i ≡ n) ⊎ (i < n) → IsCut bytes i
    by (inl same) = subst (IsCut bytes) (sym same) end
    by (inr less) = (cut_same_before bytes n i less).0 cut

-- a cut of the text before an offset is one of what comes before the offset
pub cut_front : (bytes : List ℕ) (n i : ℕ) → IsCut bytes i → IsCut (take n bytes) i
cut_front bytes n i cut =
    λ some within high.
    let size = length-take n bytes in
    (cut_same_before bytes n i (omega arith)).1 cut some within high

-- a cut of what lies between two cuts is one of the text
pub cut_between : (bytes : List ℕ) (i j k m : ℕ) → m ≡ i + k → m ≤ j → IsCut bytes i → IsCut bytes j → IsCut (slice_range bytes i j) k → IsCut bytes m
cut_between bytes i j k m is within first last cut =
    let last_rest = cut_rest bytes i (j - i) j (omega arith) last in
    cut_drop bytes i k m is first (cut_take (drop i bytes) (j - i) k (omega arith) last_rest cut)

-- no line feed is among the first bytes, where none is before an offset nor among those after it
pub line_drop : (bytes : List ℕ) (n i m : ℕ) → m ≡ n + i → IsInLine bytes n → IsInLine (drop n bytes) i → IsInLine bytes m
line_drop bytes n i m is first later k within feed =
    let from : n < suc k = lt_of_not-le (λ (h : suc k ≤ n). first k h feed) in
    let same : n + (k - n) ≡ k = omega arith in
    later (k - n) (omega arith) (get_or-drop n bytes (k - n) 0 ∙ (at_same bytes (n + (k - n)) k same ∙ feed))

-- no line feed is among the first bytes of what comes before an offset, where none is among those of the text
pub line_front : (bytes : List ℕ) (n i : ℕ) → i ≤ n → IsInLine bytes i → IsInLine (take n bytes) i
line_front bytes n i order line k within feed = line k within (sym (get_or-take n bytes k 0 (omega arith)) ∙ feed)

-- a byte after ASCII begins a character, and one before none goes on with one
lead : (before here : ℕ) → (128 ≤ before → here < 128) → (before < 128 → 192 ≤ here) → 128 ≤ here → 192 ≤ here
lead before here cut after high = grind arith

-- a text is cut in no character where it is cut
pub cut_boundary : (bytes : List ℕ) (i : ℕ) → IsUtf8 bytes → i ≤ length bytes → IsCut bytes i → IsCharBoundary bytes i
cut_boundary bytes zero valid within cut = IsCharBoundary-start bytes valid
cut_boundary bytes (suc i) valid within cut =
    let before = at_same bytes (suc i - 1) i (omega arith) in
    let here = at_same bytes (i + 1) (suc i) (omega arith) in (
      within,
      λ less high.
          lead (slice_index bytes i) (slice_index bytes (suc i))
          (λ h. cut (omega arith) less (omega arith))
          (λ h. let k = lead_after_ascii bytes i valid h (omega arith) (omega arith) in omega arith)
          high,
    )

-- where a byte parts two texts with no line feed, there is one line feed at most in all
pub one_feed : (bytes rest : List ℕ) (n m : ℕ) → ((k : ℕ) → slice_index rest k ≡ slice_index bytes (n + 1 + k)) → IsInLine bytes n → IsInLine rest m → (j k : ℕ) → j < k → k < n + 1 + m → slice_index bytes j ≡ 10 → slice_index bytes k ≢ 10
one_feed bytes rest n m byte first later j k order within feed again =
    let from : n < suc j = lt_of_not-le (λ (h : suc j ≤ n). first j h feed) in
    let same : n + 1 + (k - (n + 1)) ≡ k = omega arith in
    later (k - (n + 1)) (omega arith) (byte (k - (n + 1)) ∙ (at_same bytes (n + 1 + (k - (n + 1))) k same ∙ again))

-- what holds of a byte, of those before it and of those after it holds of all of them
pub all_parted : (P : ℕ → Type 0) (bytes rest : List ℕ) (n m : ℕ) → ((k : ℕ) → slice_index rest k ≡ slice_index bytes (n + 1 + k)) → ((k : ℕ) → k < n → P (slice_index bytes k)) → P (slice_index bytes n) → ((k : ℕ) → k < m → P (slice_index rest k)) → (k : ℕ) → k < n + 1 + m → P (slice_index bytes k)
all_parted P bytes rest n m byte first here later k within = by (cases_lt k n)
  where
    past : n < k → P (slice_index bytes k)
    past order =
        let same : n + 1 + (k - (n + 1)) ≡ k = omega arith in
        subst P (byte (k - (n + 1)) ∙ at_same bytes (n + 1 + (k - (n + 1))) k same) (later (k - (n + 1)) (omega arith))

    from : (n ≡ k) ⊎ (n < k) → P (slice_index bytes k)
    from (inl same) = subst P (at_same bytes n k same) here
    from (inr order) = past order

    by : (k < n) ⊎ (n ≤ k) → P (slice_index bytes k)
    by (inl before) = first k before
    by (inr order) = from (eq-or-lt_of_le order)
