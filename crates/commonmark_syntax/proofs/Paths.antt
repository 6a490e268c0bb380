-- Paths of extended autolinks, as far as they are read.
use Rattle.std.proofs.Common.{◌≡◌, ℕ, zero, suc, ◌<◌, ◌≤◌, Bool, true, false, cond, List, [], ◌∷◌, drop, take, length, get_or, refl, inl, inr, sym, ◌∙◌, ap, arith}
use Rattle.std.proofs.Math.Seq.{drop-cons}
use Rattle.commonmark_syntax.specs.ExtendedAutolinks.{depth_after, ends_path, path, path_at_depth}
use Rattle.commonmark_syntax.proofs.Tests.{cases_bool}

pub path_stops : (b : Bool) (d c : ℕ) (u : List ℕ) → ends_path b d c ≡ true → path_at_depth b d (c ∷ u) ≡ []
path_stops b d c u e = ap (λ x. cond x [] (c ∷ path_at_depth b (depth_after d c) u)) e

pub path_goes : (b : Bool) (d c : ℕ) (u : List ℕ) → ends_path b d c ≡ false → path_at_depth b d (c ∷ u) ≡ c ∷ path_at_depth b (depth_after d c) u
path_goes b d c u e = ap (λ x. cond x [] (c ∷ path_at_depth b (depth_after d c) u)) e

-- a path is the start of the text
pub path_front : (b : Bool) (d : ℕ) (s : List ℕ) → take (length (path_at_depth b d s)) s ≡ path_at_depth b d s
path_front b d [] = refl
path_front b d (c ∷ u) = elim (cases_bool (ends_path b d c)) [
  | inl e ↦ (let k : path_at_depth b d (c ∷ u) ≡ [] = path_stops b d c u e in ap (λ x. take (length x) (c ∷ u)) k ∙ sym k)
  | inr e ↦ (let k : path_at_depth b d (c ∷ u) ≡ c ∷ path_at_depth b (depth_after d c) u = path_goes b d c u e in
      ap (λ x. take (length x) (c ∷ u)) k ∙ ap (λ x. c ∷ x) (path_front b (depth_after d c) u) ∙ sym k)
]

-- one more byte, and the last
pub one_more : (b : Bool) (d : ℕ) (s : List ℕ) (i c e : ℕ) → i < length s → c ≡ get_or s i 0 → ends_path b d c ≡ false → e ≡ depth_after d c
    → length (path_at_depth b d (drop i s)) ≡ suc (length (path_at_depth b e (drop (suc i) s)))
one_more b d s i c e less is goes after =
    let same : drop i s ≡ c ∷ drop (suc i) s = drop-cons s i 0 less ∙ ap (λ x. x ∷ drop (suc i) s) (sym is) in
    ap (λ x. length (path_at_depth b d x)) same ∙ ap length (path_goes b d c (drop (suc i) s) goes) ∙ ap (λ x. suc (length (path_at_depth b x (drop (suc i) s)))) (sym after)

pub none_more : (b : Bool) (d : ℕ) (s : List ℕ) (i c : ℕ) → i < length s → c ≡ get_or s i 0 → ends_path b d c ≡ true → length (path_at_depth b d (drop i s)) ≡ 0
none_more b d s i c less is stops =
    let same : drop i s ≡ c ∷ drop (suc i) s = drop-cons s i 0 less ∙ ap (λ x. x ∷ drop (suc i) s) (sym is) in
    ap (λ x. length (path_at_depth b d x)) same ∙ ap length (path_stops b d c (drop (suc i) s) stops)

none_behind : (s : List ℕ) (i : ℕ) → length s ≤ i → drop i s ≡ []
none_behind [] zero le = refl
none_behind [] (suc i) le = refl
none_behind (c ∷ u) zero le = absurd (omega (arith, le))
none_behind (c ∷ u) (suc i) le = none_behind u i (omega (arith, le))

pub all_read : (b : Bool) (d : ℕ) (s : List ℕ) (i : ℕ) → length s ≤ i → length (path_at_depth b d (drop i s)) ≡ 0
all_read b d s i le = ap (λ x. length (path_at_depth b d x)) (none_behind s i le)

-- a path of so many bytes
pub path_taken : (b : Bool) (s : List ℕ) (n : ℕ) → n ≡ length (path b s) → take n s ≡ path b s
path_taken b s n e = ap (λ x. take x s) e ∙ path_front b 0 s
