-- Open tags: a / before the > can be the last byte of a value without quotes, or stand behind it; the way to the end is one.
use Rattle.std.proofs.Common.{◌≡◌, ℕ, zero, suc, Bool, true, not, ◌&&◌, List, ◌∷◌, Some, None, refl, sym, subst, ◌==◌, lit≤, inl, inr}
use Rattle.commonmark_syntax.specs.Language.{Syntax, one, many, Reads, Times, ◌then◌, ◌or◌, optional}
use Rattle.commonmark_syntax.specs.Reading.{first_of_class, read, are_apart, is_within, views, everything, class_view, View}
use Rattle.commonmark_syntax.specs.Syntax.{byte, blanks, some_blanks, tag_name, attribute_name, is_unquoted, unquoted, quoted, attribute_value, value_specification, attribute, open_tag_end, open_tag}
use Rattle.commonmark_syntax.proofs.Tests.{same_number, and_both, false_not, cases_bool}
use Rattle.commonmark_syntax.proofs.Fronts.{AreBytes, bytes_kept}
use Rattle.commonmark_syntax.proofs.Sound.{class_sound}
use Rattle.commonmark_syntax.proofs.Views.{Sees, sees, apart_at, class_sees}
use Rattle.commonmark_syntax.proofs.Exact.{exact, stuck}
use Rattle.commonmark_syntax.proofs.Goes.{Way, Then, Same, Goes, goes_exact, goes_sequence, goes_choice, goes_optional, goes_swallow, goes_many, Swallows}

abbrev AtEnd : Way
AtEnd = Then open_tag_end Same

-- more attributes, and the end
abbrev Rest : Way
Rest = Then (many attribute) AtEnd

abbrev tag_rest : Syntax
tag_rest = many attribute then open_tag_end

rest_sees : (m u : List ℕ) → AreBytes m → Rest m u → Sees (views tag_rest everything) m
rest_sees m u bytes k = sees tag_rest everything m k.2.0 bytes (k.0, k.1, k.2.1) refl

-- What a value without quotes can take of the rest is a / before the >.
not_attribute : (c : ℕ) (v t : List ℕ) → AreBytes (c ∷ v) → is_unquoted c ≡ true → Reads attribute (c ∷ v) t → ⊥
unfolding are_apart is_within
not_attribute c v t bytes e r =
    apart_at (views attribute everything) (class_view is_unquoted everything) (c ∷ v) refl bytes
    (sees attribute everything (c ∷ v) t bytes r refl) (class_sees is_unquoted everything c (c ∷ v) v e refl bytes refl)

is_slash : (c : ℕ) (v t : List ℕ) → AreBytes (c ∷ v) → is_unquoted c ≡ true → Reads open_tag_end (c ∷ v) t → c ≡ 47
unfolding are_apart is_within
is_slash c v t bytes e r = elim (cases_bool (c == 47)) [
  | inl h ↦ same_number c 47 h
  | inr h ↦ absurd (apart_at (views open_tag_end everything) (class_view (λ x. is_unquoted x && not (x == 47)) everything) (c ∷ v) refl bytes
      (sees open_tag_end everything (c ∷ v) t bytes r refl)
      (class_sees (λ x. is_unquoted x && not (x == 47)) everything c (c ∷ v) v (and_both _ _ e (false_not _ h)) refl bytes refl))
]

end_exact : (s t : List ℕ) → AreBytes s → Reads open_tag_end s t → read open_tag_end s ≡ Some t
unfolding are_apart is_within
end_exact s t bytes r = exact open_tag_end everything refl s t bytes r refl

behind_slash : (v t : List ℕ) → AreBytes (47 ∷ v) → Reads open_tag_end (47 ∷ v) t → Reads open_tag_end v t
behind_slash v t bytes r =
    let e : first_of_class (λ x. x == 62) v ≡ Some t = end_exact (47 ∷ v) t bytes r in
    (v, (v, (0, refl), (0, lit≤ tt, refl)), (v, (0, lit≤ tt, refl), class_sound (λ x. x == 62) v t e))

swallow_rest : (c : ℕ) (v : List ℕ) (u w : List ℕ) (n : ℕ) → AreBytes (c ∷ v) → is_unquoted c ≡ true → Times (Reads attribute) n (c ∷ v) w → AtEnd w u → Rest v u
swallow_rest c v u w (suc n) bytes e r k = absurd (not_attribute c v r.0 bytes e r.1)
swallow_rest c v u w zero bytes e r k =
    let there : Reads open_tag_end (c ∷ v) k.0 = subst (λ y. Reads open_tag_end y k.0) (sym r) k.1 in
    let same : c ≡ 47 = is_slash c v k.0 bytes e there in
    (v, (0, refl), (k.0, behind_slash v k.0 (subst (λ y. AreBytes (y ∷ v)) same bytes) (subst (λ y. Reads open_tag_end (y ∷ v) k.0) same there), k.2))

swallows : Swallows is_unquoted Rest
swallows c v u bytes e k = swallow_rest c v u k.0 k.1.0 bytes e k.1.1 k.2

abbrev quotes : Syntax
quotes = quoted 39 or quoted 34

quotes_exact : (s t : List ℕ) → AreBytes s → Reads quotes s t → read quotes s ≡ Some t
unfolding are_apart is_within
quotes_exact s t bytes r = exact quotes everything refl s t bytes r refl

not_unquoted : (s t : List ℕ) → AreBytes s → Reads quotes s t → read unquoted s ≡ None
unfolding are_apart is_within
not_unquoted s t bytes r = stuck unquoted (views quotes everything) s refl bytes (sees quotes everything s t bytes r refl)

any_goes : (p : ℕ → Bool) (K : Way) → Goes (one p) K
any_goes p K = goes_exact (one p) (Sees everything) K (exact (one p) everything refl) (λ m u bytes k. refl)

value_goes : Goes attribute_value Rest
value_goes = goes_choice unquoted quotes Rest
    (goes_sequence (one is_unquoted) (many (one is_unquoted)) Rest (any_goes is_unquoted _) (goes_swallow is_unquoted Rest swallows))
    (goes_exact quotes (λ m. Unit {0}) Rest (λ s t bytes r h. quotes_exact s t bytes r) (λ m u bytes k. tt))
    (λ s t bytes r. not_unquoted s t bytes r)

blanks_goes : (b : Syntax) → ((s t : List ℕ) → AreBytes s → Reads blanks s t → Sees (views b everything) t → read blanks s ≡ Some t) → (K : Way) → Goes blanks (Then b K)
blanks_goes b exactly K = goes_exact blanks (Sees (views b everything)) (Then b K) exactly (λ m u bytes k. sees b everything m k.0 bytes k.1 refl)

before_value : (s t : List ℕ) → AreBytes s → Reads blanks s t → Sees (views attribute_value everything) t → read blanks s ≡ Some t
unfolding are_apart is_within
before_value s t bytes r h = exact blanks (views attribute_value everything) refl s t bytes r h

abbrev sign_on : Syntax
sign_on = byte 61 then blanks then attribute_value

before_sign : (s t : List ℕ) → AreBytes s → Reads blanks s t → Sees (views sign_on everything) t → read blanks s ≡ Some t
unfolding are_apart is_within
before_sign s t bytes r h = exact blanks (views sign_on everything) refl s t bytes r h

specification_goes : Goes value_specification Rest
specification_goes = goes_sequence blanks sign_on Rest (blanks_goes sign_on before_sign Rest)
    (goes_sequence (byte 61) (blanks then attribute_value) Rest (any_goes _ _)
    (goes_sequence blanks attribute_value Rest (blanks_goes attribute_value before_value Rest) value_goes))

no_specification : (m u : List ℕ) → AreBytes m → Rest m u → read value_specification m ≡ None
unfolding are_apart is_within
no_specification m u bytes k = stuck value_specification (views tag_rest everything) m refl bytes (rest_sees m u bytes k)

abbrev name_on : Syntax
name_on = attribute_name then optional value_specification

before_name : (s t : List ℕ) → AreBytes s → Reads some_blanks s t → Sees (views name_on everything) t → read some_blanks s ≡ Some t
unfolding are_apart is_within
before_name s t bytes r h = exact some_blanks (views name_on everything) refl s t bytes r h

abbrev behind_name : View
behind_name = views (optional value_specification) (views tag_rest everything)

name_exact : (s t : List ℕ) → AreBytes s → Reads attribute_name s t → Sees behind_name t → read attribute_name s ≡ Some t
unfolding are_apart is_within
name_exact s t bytes r h = exact attribute_name behind_name refl s t bytes r h

name_sees : (m u : List ℕ) → AreBytes m → Then (optional value_specification) Rest m u → Sees behind_name m
name_sees m u bytes k = sees (optional value_specification) (views tag_rest everything) m k.0 bytes k.1
    (rest_sees k.0 u (bytes_kept (optional value_specification) m k.0 k.1 bytes) k.2)

attribute_goes : Goes attribute Rest
attribute_goes = goes_sequence some_blanks name_on Rest
    (goes_exact some_blanks (Sees (views name_on everything)) (Then name_on Rest) before_name (λ m u bytes k. sees name_on everything m k.0 bytes k.1 refl))
    (goes_sequence attribute_name (optional value_specification) Rest
    (goes_exact attribute_name (Sees behind_name) (Then (optional value_specification) Rest) name_exact name_sees)
    (goes_optional value_specification Rest specification_goes no_specification))

no_attribute : (m u : List ℕ) → AreBytes m → AtEnd m u → read attribute m ≡ None
unfolding are_apart is_within
no_attribute m u bytes k = stuck attribute (views open_tag_end everything) m refl bytes (sees open_tag_end everything m k.0 bytes k.1 refl)

tag_name_exact : (s t : List ℕ) → AreBytes s → Reads tag_name s t → Sees (views tag_rest everything) t → read tag_name s ≡ Some t
unfolding are_apart is_within
tag_name_exact s t bytes r h = exact tag_name (views tag_rest everything) refl s t bytes r h

pub open_tag_goes : Goes open_tag Same
open_tag_goes = goes_sequence (byte 60) (tag_name then tag_rest) Same (any_goes _ _)
    (goes_sequence tag_name tag_rest Same
    (goes_exact tag_name (Sees (views tag_rest everything)) (Then tag_rest Same) tag_name_exact (λ m u bytes k. sees tag_rest everything m k.0 bytes k.1 refl))
    (goes_sequence (many attribute) open_tag_end Same
    (goes_many attribute AtEnd refl attribute_goes no_attribute)
    (goes_exact open_tag_end (λ m. Unit {0}) Same (λ s t bytes r h. end_exact s t bytes r) (λ m u bytes k. tt))))
