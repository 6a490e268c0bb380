-- Whether the path ahead is only what may not end an autolink: no piece of that ends a path.
use Rattle.std.proofs.Common.{◌≡◌, ℕ, zero, suc, ◌<◌, ◌≤◌, Bool, true, false, List, [], ◌∷◌, ◌++◌, length, slice_index, Some, None, refl, inl, inr, sym, ◌∙◌, ap, arith}
use Rattle.std.proofs.lemmas.Bool.Decides.{nat_tests}
use Rattle.std.proofs.lemmas.List.{append_assoc}
use Rattle.commonmark_syntax.specs.ExtendedAutolinks.{depth_after, ends_path, is_trail, is_trailing, is_whole, path, path_at_depth, reference_like, trail, trail_piece}
use Rattle.commonmark_syntax.specs.Language.{Reads, Syntax, Times, are_all}
use Rattle.commonmark_syntax.specs.Reading.{greedy, is_nullable, read}
use Rattle.commonmark_syntax.specs.Syntax.{is_alphanumeric}
use Rattle.commonmark_syntax.proofs.Loops.{many_done, read_smaller}
use Rattle.commonmark_syntax.proofs.Paths.{path_goes, path_stops}
use Rattle.commonmark_syntax.proofs.Sound.{greedy_go, greedy_stop, sound}
use Rattle.commonmark_syntax.proofs.Tests.{and_both, and_parts, cases_bool, cases_option, same_number}
use Rattle.commonmark_syntax.proofs.Trails.{mark_read, reference_read, trail_on}

-- where reading as often as it can has come to, there is nothing more to read
pub ended_of : (a : Syntax) → is_nullable a ≡ false → (k : ℕ) (s : List ℕ) → length s ≤ k → read a (greedy (read a) k s) ≡ None
ended_of a strict zero s fits = elim (cases_option (read a s)) [
  | inl e ↦ e
  | inr x ↦ absurd (omega (arith, fits, read_smaller a s x.0 strict x.1))
]
ended_of a strict (suc k) s fits = elim (cases_option (read a s)) [
  | inl e ↦ ap (read a) (greedy_stop (read a) (suc k) s e) ∙ e
  | inr x ↦ ap (read a) (greedy_go (read a) k s x.0 x.1) ∙ ended_of a strict k x.0 (omega (arith, fits, read_smaller a s x.0 strict x.1))
]

-- a byte that goes on with a path outside of brackets, and opens none
abbrev IsPlain : Bool → ℕ → Type 0
IsPlain b c = (ends_path b 0 c ≡ false) × (depth_after 0 c ≡ 0)

abbrev ArePlain : Bool → List ℕ → Type 0
ArePlain b [] = Unit {0}
ArePlain b (c ∷ w) = IsPlain b c × ArePlain b w

letter_plain : (b : Bool) (c : ℕ) → is_alphanumeric c ≡ true → IsPlain b c
letter_plain true c e = (grind (arith, nat_tests), grind (arith, nat_tests))
letter_plain false c e = (grind (arith, nat_tests), grind (arith, nat_tests))

mark_plain : (b : Bool) (c : ℕ) → is_trailing c ≡ true → IsPlain b c
mark_plain true c e = (grind (arith, nat_tests), grind (arith, nat_tests))
mark_plain false c e = (grind (arith, nat_tests), grind (arith, nat_tests))

sign_plain : (b : Bool) (c : ℕ) → c ≡ 41 → IsPlain b c
sign_plain true c e = (grind (arith, nat_tests), grind (arith, nat_tests))
sign_plain false c e = (grind (arith, nat_tests), grind (arith, nat_tests))

closing_plain : (b : Bool) → ArePlain b (59 ∷ [])
closing_plain true = ((refl, refl), tt)
closing_plain false = ((refl, refl), tt)

opening_plain : (b : Bool) → IsPlain b 38
opening_plain true = (refl, refl)
opening_plain false = (refl, refl)

name_plain : (b : Bool) (name : List ℕ) → are_all is_alphanumeric name ≡ true → ArePlain b (name ++ 59 ∷ [])
name_plain b [] every = closing_plain b
name_plain b (c ∷ name) every =
    let parts : (is_alphanumeric c ≡ true) × (are_all is_alphanumeric name ≡ true) = and_parts _ _ every in
    (letter_plain b c parts.0, name_plain b name parts.1)

over_plain : (b : Bool) (w t : List ℕ) → ArePlain b w → path b (w ++ t) ≡ w ++ path b t
over_plain b [] t plain = refl
over_plain b (c ∷ w) t plain =
    path_goes b 0 c (w ++ t) plain.0.0 ∙ ap (λ x. c ∷ x) (ap (λ d. path_at_depth b d (w ++ t)) plain.0.1 ∙ over_plain b w t plain.1)

-- a piece is read whatever comes after it
record Piece (b : Bool) (s t : List ℕ) : Type 0 where
  text : List ℕ
  whole : s ≡ text ++ t
  reads : (u : List ℕ) → read trail_piece (text ++ u) ≡ Some u
  plain : ArePlain b text

reference_piece : (b : Bool) (s t : List ℕ) → Reads reference_like s t → Piece b s t
reference_piece b s t reads =
    let sign = reads.1 in
    let letter = reads.2.1 in
    let letters = reads.2.2.1 in
    let closing = reads.2.2.2 in
    let name : List ℕ = letter.0 ∷ letters.0 in
    let every : are_all is_alphanumeric name ≡ true = and_both _ _ letter.1 letters.2 in
    let behind : reads.2.2.0 ≡ 59 ∷ t = closing.2 ∙ ap (λ x. x ∷ t) (same_number closing.0 59 closing.1) in
    let named : reads.0 ≡ name ++ 59 ∷ t = letter.2 ∙ ap (λ x. letter.0 ∷ x) (letters.1 ∙ ap (λ (x : List ℕ). letters.0 ++ x) behind) in
    record {
      text = 38 ∷ (name ++ 59 ∷ []);
      whole = sign.2 ∙ ap (λ x. x ∷ reads.0) (same_number sign.0 38 sign.1) ∙ ap (λ (x : List ℕ). 38 ∷ x) (named ∙ sym (append_assoc name (59 ∷ []) t));
      reads = λ u. ap (λ (x : List ℕ). read trail_piece (38 ∷ x)) (append_assoc name (59 ∷ []) u) ∙ reference_read name u (omega arith) every;
      plain = (opening_plain b, name_plain b name every);
    }

piece : (b : Bool) (s t : List ℕ) → Reads trail_piece s t → Piece b s t
piece b s t (inl x) = record { text = x.0 ∷ []; whole = x.2; reads = λ u. mark_read x.0 u x.1; plain = (mark_plain b x.0 x.1, tt) }
piece b s t (inr (inl x)) =
    let is : x.0 ≡ 41 = same_number x.0 41 x.1 in
    record { text = x.0 ∷ []; whole = x.2; reads = λ u. ap (λ c. read trail_piece (c ∷ u)) is; plain = (sign_plain b x.0 is, tt) }
piece b s t (inr (inr x)) = reference_piece b s t x

same_behind : (b : Bool) (m : ℕ) (s t : List ℕ) → Times (Reads trail_piece) m s t → is_trail (path b s) ≡ is_trail (path b t)
same_behind b zero s t e = ap (λ x. is_trail (path b x)) e
same_behind b (suc m) s t reads =
    let p : Piece b s reads.0 = piece b s reads.0 reads.1 in
    ap (λ x. is_trail (path b x)) p.whole ∙ ap is_trail (over_plain b p.text reads.0 p.plain)
    ∙ trail_on (p.text ++ path b reads.0) (path b reads.0) (p.reads (path b reads.0)) ∙ same_behind b m reads.0 t reads.2

-- a path is the start of a text
behind_path : (b : Bool) (d : ℕ) (s : List ℕ) → (t : List ℕ) × (s ≡ path_at_depth b d s ++ t)
behind_path b d [] = ([], refl)
behind_path b d (c ∷ u) = elim (cases_bool (ends_path b d c)) [
  | inl e ↦ (c ∷ u, ap (λ (x : List ℕ). x ++ c ∷ u) (sym (path_stops b d c u e)))
  | inr e ↦ (let x : (t : List ℕ) × (u ≡ path_at_depth b (depth_after d c) u ++ t) = behind_path b (depth_after d c) u in
      (x.0, ap (λ (y : List ℕ). c ∷ y) x.1 ∙ ap (λ (y : List ℕ). y ++ x.0) (sym (path_goes b d c u e))))
]

no_piece : (b : Bool) (s : List ℕ) → read trail_piece s ≡ None → read trail_piece (path b s) ≡ None
no_piece b s none = elim (cases_option (read trail_piece (path b s))) [
  | inl e ↦ e
  | inr x ↦
      (let p : Piece b (path b s) x.0 = piece b (path b s) x.0 (sound trail_piece (path b s) x.0 x.1) in
      let rest : (t : List ℕ) × (s ≡ path b s ++ t) = behind_path b 0 s in
      let whole : s ≡ p.text ++ (x.0 ++ rest.0) = rest.1 ∙ ap (λ (y : List ℕ). y ++ rest.0) p.whole ∙ append_assoc p.text x.0 rest.0 in
      let k : read trail_piece s ≡ Some (x.0 ++ rest.0) = ap (read trail_piece) whole ∙ p.reads (x.0 ++ rest.0) in
      let l : None ≡ Some (x.0 ++ rest.0) = sym none ∙ k in cc)
]

no_trail_at : (c : ℕ) (u : List ℕ) → read trail_piece (c ∷ u) ≡ None → is_trail (c ∷ u) ≡ false
no_trail_at c u none = ap (λ x. is_whole (Some x)) (many_done trail_piece (c ∷ u) none)

-- by what reading leaves
left_read : (b : Bool) (s r : List ℕ) → read trail s ≡ Some r → (is_trail (path b s) ≡ is_trail (path b r)) × (read trail_piece r ≡ None)
left_read b s r e =
    let reads : Reads trail s r = sound trail s r e in
    let same : greedy (read trail_piece) (length s) s ≡ r = cc in
    (same_behind b reads.0 s r reads.1, ap (read trail_piece) (sym same) ∙ ended_of trail_piece refl (length s) s (omega arith))

pub ahead_none : (b : Bool) (s r : List ℕ) → read trail s ≡ Some r → length r < 1 → true ≡ is_trail (path b s)
ahead_none b s [] e none = sym (left_read b s [] e).0
ahead_none b s (c ∷ u) e none = absurd (omega (arith, none))

pub ahead_some : (b : Bool) (s r : List ℕ) (answer : Bool) → read trail s ≡ Some r → 1 ≤ length r → answer ≡ ends_path b 0 (slice_index r 0) → answer ≡ is_trail (path b s)
ahead_some b s [] answer e some is = absurd (omega (arith, some))
ahead_some b s (c ∷ u) answer e some is =
    let both : (is_trail (path b s) ≡ is_trail (path b (c ∷ u))) × (read trail_piece (c ∷ u) ≡ None) = left_read b s (c ∷ u) e in
    elim (cases_bool (ends_path b 0 c)) [
      | inl stops ↦ is ∙ stops ∙ sym (both.0 ∙ ap is_trail (path_stops b 0 c u stops))
      | inr goes ↦
          (let same : path b (c ∷ u) ≡ c ∷ path_at_depth b (depth_after 0 c) u = path_goes b 0 c u goes in
          let none : read trail_piece (c ∷ path_at_depth b (depth_after 0 c) u) ≡ None = ap (read trail_piece) (sym same) ∙ no_piece b (c ∷ u) both.1 in
          is ∙ goes ∙ sym (both.0 ∙ ap is_trail same ∙ no_trail_at c (path_at_depth b (depth_after 0 c) u) none))
    ]
