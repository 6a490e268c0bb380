-- What a scanner says of the length that it gives, by what comes after what it reads.
use Rattle.std.proofs.Common.{◌≡◌, ℕ, ◌-◌, ◌<◌, ◌≤◌, Bool, true, false, List, [], drop, length, Option, Some, None, refl, sym, ◌∙◌, ap, subst, arith, ◌==◌}
use Rattle.std.specs.Prelude.{MatchOption}
use Rattle.std.specs.Option.{is_some}
use Rattle.commonmark_syntax.specs.Cuts.{IsAscii, IsCut, IsInLine}
use Rattle.commonmark_syntax.specs.Language.{Syntax, IsAt, IsNotAt, Leaves, Matches, Reads}
use Rattle.commonmark_syntax.specs.Reading.{Reading, everything, is_clear, read}
use Rattle.commonmark_syntax.proofs.Fronts.{AreBytes, least, left, shortest}
use Rattle.commonmark_syntax.proofs.Sound.{sound}
use Rattle.commonmark_syntax.proofs.Exact.{empty_length, exact, length_empty}
use Rattle.commonmark_syntax.proofs.Ascii.{ascii, is_ascii}
use Rattle.commonmark_syntax.proofs.Sizes.{cut, ends_tidy, in_line, keeps_line}

-- what there is to read is what reading as a function leaves
abbrev pub IsRead : Syntax → List ℕ → Type 0
IsRead r s = (t : List ℕ) → Reads r s t → read r s ≡ Some t

pub clearly : (r : Syntax) (s : List ℕ) → is_clear r everything ≡ true → AreBytes s → IsRead r s
clearly r s clear bytes t reads = exact r everything clear s t bytes reads refl

pub none_exact : (r : Syntax) (s : List ℕ) (o : Option ℕ) → IsRead r s → read r s ≡ None → o ≡ None → MatchOption o (IsNotAt r s) (λ size. Leaves r s (drop size s))
none_exact r s o is_read missing none =
    subst (λ x. MatchOption x (IsNotAt r s) (λ size. Leaves r s (drop size s))) (sym none)
    (λ t reads. (let k : read r s ≡ Some t = is_read t reads in cc))

pub size_exact : (r : Syntax) (s t : List ℕ) → IsRead r s → read r s ≡ Some t → Leaves r s (drop (length s - length t) s)
size_exact r s t is_read found = subst (Leaves r s) (sym (left r s t (sound r s t found))) (record {
  there = sound r s t found;
  only = λ u reads. (let k : read r s ≡ Some u = is_read u reads in cc);
})

pub size_most : (r : Syntax) (s t : List ℕ) → read r s ≡ Some t → length t ≤ length s
size_most r s t found = omega (arith, least r s t (sound r s t found))

pub size_least : (r : Syntax) (s t : List ℕ) (n : ℕ) → read r s ≡ Some t → n < shortest r → n < length s - length t
size_least r s t n found more = omega (arith, least r s t (sound r s t found), more)

pub size_cut : (r : Syntax) (s t : List ℕ) → ends_tidy r ≡ true → AreBytes s → read r s ≡ Some t → IsCut s (length s - length t)
size_cut r s t ends bytes found = cut r s t ends bytes (sound r s t found)

pub size_in_line : (r : Syntax) (s t : List ℕ) → keeps_line r ≡ true → read r s ≡ Some t → IsInLine s (length s - length t)
size_in_line r s t keeps found = in_line r s t keeps (sound r s t found)

pub size_ascii : (r : Syntax) (s t : List ℕ) → is_ascii r ≡ true → AreBytes s → read r s ≡ Some t → IsAscii s (length s - length t)
size_ascii r s t is bytes found = ascii r s t is bytes (sound r s t found)

-- whether there is something to read
pub found : {T : Type 0} (r : Syntax) (s : List ℕ) (view : T → List ℕ) (o : Option T) (b : Bool) → Reading r s view o → b ≡ is_some o → b ≡ true → IsAt r s
found r s view None b reading same is = cc
found r s view (Some x) b reading same is = (view x, sound r s (view x) reading)

pub not_found : {T : Type 0} (r : Syntax) (s : List ℕ) (view : T → List ℕ) (o : Option T) (b : Bool) → IsRead r s → Reading r s view o → b ≡ is_some o → b ≡ false → IsNotAt r s
not_found r s view None b is_read reading same missing = λ t reads. (let k : read r s ≡ Some t = is_read t reads in cc)
not_found r s view (Some x) b is_read reading same missing = cc

-- whether the whole text is of the syntax
abbrev pub IsReadWhole : Syntax → List ℕ → Type 0
IsReadWhole r s = Matches r s → read r s ≡ Some []

pub whole : (r : Syntax) (s t : List ℕ) (b : Bool) → read r s ≡ Some t → b ≡ (length t == 0) → b ≡ true → Matches r s
whole r s t b e same is = sound r s [] (e ∙ ap Some (empty_length t (sym same ∙ is)))

pub not_whole : (r : Syntax) (s t : List ℕ) (b : Bool) → IsReadWhole r s → read r s ≡ Some t → b ≡ (length t == 0) → b ≡ false → Matches r s → ⊥
not_whole r s t b is_read e same more reads =
    let k : Some t ≡ Some [] = sym e ∙ is_read reads in
    let l : t ≡ [] = cc in
    let m : b ≡ true = same ∙ length_empty t l in cc

pub none_whole : (r : Syntax) (s : List ℕ) → IsReadWhole r s → read r s ≡ None → Matches r s → ⊥
none_whole r s is_read e reads = (let k : read r s ≡ Some [] = is_read reads in cc)
