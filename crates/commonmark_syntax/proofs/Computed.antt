-- Destinations, definitions, resources and strings of marks as functions: what they give is what the pages say.
use Rattle.std.proofs.Common.{◌≡◌, ◌≢◌, ℕ, suc, ◌+◌, ◌<◌, ◌≤◌, Bool, true, false, cond, ◌⊎◌, List, [], ◌∷◌, length, drop, Option, Some, None, refl, inl, inr, sym, ◌∙◌, ap, subst, arith, nat_lt, ◌==◌}
use Rattle.std.specs.Option.{option_or}
use Rattle.std.specs.Prelude.{MatchOption, ◌&&◌, option_and_then, slice_index}
use Rattle.commonmark_syntax.specs.Definitions.{IsNoDefinition, LeavesDefinition, definition_start, line_end, titled_end}
use Rattle.commonmark_syntax.specs.Parentheses.{IsDestination, IsNoDestination, LeavesDestination, ends}
use Rattle.commonmark_syntax.specs.Reading.{read}
use Rattle.commonmark_syntax.specs.Resources.{IsNoResource, LeavesResource, resource_rest, resource_start}
use Rattle.commonmark_syntax.specs.Strings.{FirstStringEnds, HasNoString}
use Rattle.commonmark_syntax.specs.Syntax.{angle_destination}
use Rattle.commonmark_syntax.proofs.Clear.{angle_destination_clear}
use Rattle.commonmark_syntax.proofs.Definitions as definitions
use Rattle.commonmark_syntax.proofs.Destinations.{balanced_front, raw_empty, raw_exact, raw_first, raw_left, raw_none}
use Rattle.commonmark_syntax.proofs.Exact.{is_not_at, leaves}
use Rattle.commonmark_syntax.proofs.Fronts.{AreBytes, Ends, bytes_behind, bytes_kept, ends as front_of}
use Rattle.commonmark_syntax.proofs.Sound.{sound}
use Rattle.commonmark_syntax.proofs.Resources as resources
use Rattle.commonmark_syntax.proofs.Strings.{SoFar, begin, ends_at, ends_nowhere, mark_step, other_step}
use Rattle.commonmark_syntax.proofs.Tests.{and_parts, cases_bool, number_same, same_number}
use Rattle.std.proofs.lemmas.Bool.Decides.{nat_tests}

abbrev pub are_bytes : List ℕ → Bool
are_bytes [] = true
are_bytes (c ∷ u) = nat_lt c 256 && are_bytes u

is_byte : (c : ℕ) → nat_lt c 256 ≡ true → c < 256
is_byte c e = grind (arith, nat_tests)

bytes_are : (s : List ℕ) → are_bytes s ≡ true → AreBytes s
bytes_are [] e = tt
bytes_are (c ∷ u) e = (let both = and_parts (nat_lt c 256) (are_bytes u) e in (is_byte c both.0, bytes_are u both.1))

-- steps that may fail
and_then_some : (f : List ℕ → Option (List ℕ)) (o : Option (List ℕ)) (t : List ℕ) → option_and_then f o ≡ Some t → (m : List ℕ) × (o ≡ Some m) × (f m ≡ Some t)
and_then_some f None t e = cc
and_then_some f (Some m) t e = (m, refl, e)

and_then_none : (f : List ℕ → Option (List ℕ)) (o : Option (List ℕ)) → option_and_then f o ≡ None → (o ≡ None) ⊎ ((m : List ℕ) × (o ≡ Some m) × (f m ≡ None))
and_then_none f None e = inl refl
and_then_none f (Some m) e = inr (m, refl, e)

or_some : (o p : Option (List ℕ)) (t : List ℕ) → option_or o p ≡ Some t → (o ≡ Some t) ⊎ ((o ≡ None) × (p ≡ Some t))
or_some None p t e = inr (refl, e)
or_some (Some m) p t e = inl e

or_none : (o p : Option (List ℕ)) → option_or o p ≡ None → (o ≡ None) × (p ≡ None)
or_none None p e = (refl, e)
or_none (Some m) p e = cc

-- the first byte
abbrev begins : ℕ → List ℕ → Bool
begins b [] = false
begins b (c ∷ u) = c == b

begun : (b : ℕ) (s : List ℕ) → begins b s ≡ true → s ≡ b ∷ drop 1 s
begun b [] e = cc
begun b (c ∷ u) e = ap (λ x. x ∷ u) (same_number c b e)

not_begun : (b : ℕ) (s : List ℕ) → 0 < b → begins b s ≡ false → slice_index s 0 ≢ b
not_begun b [] some e same = omega (arith, some, same)
not_begun b (c ∷ u) some e same = (let k : (c == b) ≡ true = subst (λ x. (x == b) ≡ true) (sym same) (number_same b) in let l : true ≡ false = sym k ∙ e in cc)

-- A destination, and what is left.
abbrev shorter : List ℕ → List ℕ → Option (List ℕ)
shorter s t = cond (nat_lt (length t) (length s)) (Some t) None

abbrev raw_destination : List ℕ → Option (List ℕ)
raw_destination s = option_and_then (shorter s) (ends s false 0)

abbrev pub destination : List ℕ → Option (List ℕ)
destination s = cond (begins 60 s) (read angle_destination s) (raw_destination s)

angle_yes : (s t : List ℕ) → AreBytes s → begins 60 s ≡ true → read angle_destination s ≡ Some t → LeavesDestination s t
angle_yes s t bytes angle e =
    let found = leaves angle_destination s t angle_destination_clear bytes e in record {
      there = inl found.there;
      only = λ u there. elim there [ inl r ↦ found.only u r | inr r ↦ absurd (raw_first s u r (ap (λ x. slice_index x 0) (begun 60 s angle))) ];
    }

angle_no : (s : List ℕ) → AreBytes s → begins 60 s ≡ true → read angle_destination s ≡ None → IsNoDestination s
angle_no s bytes angle e t there = elim there [
  | inl r ↦ is_not_at angle_destination s angle_destination_clear bytes e t r
  | inr r ↦ raw_first s t r (ap (λ x. slice_index x 0) (begun 60 s angle))
]

shorter_some : (b : Bool) (n t : List ℕ) → cond b (Some n) None ≡ Some t → (b ≡ true) × (n ≡ t)
shorter_some true n t e = (refl, cc)
shorter_some false n t e = cc

shorter_none : (b : Bool) (n : List ℕ) → cond b (Some n) None ≡ None → b ≡ false
shorter_none true n e = cc
shorter_none false n e = refl

is_less : (a b : ℕ) → nat_lt a b ≡ true → a < b
is_less a b e = grind (arith, nat_tests)

is_not_less : (a b : ℕ) → nat_lt a b ≡ false → b ≤ a
is_not_less a b e = grind (arith, nat_tests)

raw_yes : (s t : List ℕ) → begins 60 s ≡ false → raw_destination s ≡ Some t → LeavesDestination s t
raw_yes s t raw e =
    let x = and_then_some (shorter s) (ends s false 0) t e in
    let y = shorter_some (nat_lt (length x.0) (length s)) x.0 t x.2 in
    subst (LeavesDestination s) (raw_left s x.0 x.1 ∙ y.1) (raw_exact s x.0 (not_begun 60 s (omega arith) raw) x.1 (is_less (length x.0) (length s) y.0))

raw_no : (s : List ℕ) → begins 60 s ≡ false → raw_destination s ≡ None → IsNoDestination s
raw_no s raw e = elim (and_then_none (shorter s) (ends s false 0) e) [
  | inl none ↦ raw_none s None (not_begun 60 s (omega arith) raw) none refl
  | inr x ↦ raw_empty s x.0 (not_begun 60 s (omega arith) raw) x.1 (is_not_less (length x.0) (length s) (shorter_none (nat_lt (length x.0) (length s)) x.0 x.2))
]

found_destination : (s t : List ℕ) → AreBytes s → destination s ≡ Some t → LeavesDestination s t
found_destination s t bytes e = elim (cases_bool (begins 60 s)) [
  | inl angle ↦ angle_yes s t bytes angle (sym (ap (λ (b : Bool). cond b (read angle_destination s) (raw_destination s)) angle) ∙ e)
  | inr raw ↦ raw_yes s t raw (sym (ap (λ (b : Bool). cond b (read angle_destination s) (raw_destination s)) raw) ∙ e)
]

missing_destination : (s : List ℕ) → AreBytes s → destination s ≡ None → IsNoDestination s
missing_destination s bytes e = elim (cases_bool (begins 60 s)) [
  | inl angle ↦ angle_no s bytes angle (sym (ap (λ (b : Bool). cond b (read angle_destination s) (raw_destination s)) angle) ∙ e)
  | inr raw ↦ raw_no s raw (sym (ap (λ (b : Bool). cond b (read angle_destination s) (raw_destination s)) raw) ∙ e)
]

pub destination_yes : (s t : List ℕ) → are_bytes s ≡ true → destination s ≡ Some t → LeavesDestination s t
destination_yes s t bytes e = found_destination s t (bytes_are s bytes) e

pub destination_no : (s : List ℕ) → are_bytes s ≡ true → destination s ≡ None → IsNoDestination s
destination_no s bytes e = missing_destination s (bytes_are s bytes) e

front : (s t : List ℕ) → IsDestination s t → Ends s t
front s t (inl r) = front_of angle_destination s t r
front s t (inr r) = (let x = balanced_front 32 s t r.balanced in (x.0, x.1))

bytes_left : (s t : List ℕ) → AreBytes s → IsDestination s t → AreBytes t
bytes_left s t bytes there = (let x : Ends s t = front s t there in bytes_behind x.0 t (subst AreBytes x.1 bytes))

-- A definition, and what is left.
abbrev definition_end : List ℕ → Option (List ℕ)
definition_end b = option_or (read titled_end b) (read line_end b)

abbrev after_start : List ℕ → Option (List ℕ)
after_start a = option_and_then definition_end (destination a)

abbrev pub definition : List ℕ → Option (List ℕ)
definition s = option_and_then after_start (read definition_start s)

pub definition_yes : (s t : List ℕ) → are_bytes s ≡ true → definition s ≡ Some t → LeavesDefinition s t
definition_yes s t are e =
    let bytes : AreBytes s = bytes_are s are in
    let x = and_then_some after_start (read definition_start s) t e in
    let y = and_then_some definition_end (destination x.0) t x.2 in
    let tail : AreBytes x.0 = bytes_kept definition_start s x.0 (sound definition_start s x.0 x.1) bytes in
    let d : LeavesDestination x.0 y.0 = found_destination x.0 y.0 tail y.1 in
    let rest : AreBytes y.0 = bytes_left x.0 y.0 tail d.there in
    elim (or_some (read titled_end y.0) (read line_end y.0) t y.2) [
      | inl titled ↦ definitions.titled_leaves s x.0 y.0 t bytes rest x.1 d titled
      | inr bare ↦ definitions.bare_leaves s x.0 y.0 t bytes rest x.1 d (definitions.untitled y.0 rest bare.0) bare.1
    ]

pub definition_no : (s : List ℕ) → are_bytes s ≡ true → definition s ≡ None → IsNoDefinition s
definition_no s are e =
    let bytes : AreBytes s = bytes_are s are in
    elim (and_then_none after_start (read definition_start s) e) [
      | inl none ↦ definitions.start_none s bytes none
      | inr x ↦
          let tail : AreBytes x.0 = bytes_kept definition_start s x.0 (sound definition_start s x.0 x.1) bytes in
          elim (and_then_none definition_end (destination x.0) x.2) [
            | inl none ↦ definitions.destination_none s x.0 bytes x.1 (missing_destination x.0 tail none)
            | inr y ↦
                let d : LeavesDestination x.0 y.0 = found_destination x.0 y.0 tail y.1 in
                let rest : AreBytes y.0 = bytes_left x.0 y.0 tail d.there in
                let both = or_none (read titled_end y.0) (read line_end y.0) y.2 in
                definitions.end_none s x.0 y.0 bytes rest x.1 d (definitions.untitled y.0 rest both.0) both.1
          ]
    ]

-- A resource, and what is left.
abbrev after_parenthesis : List ℕ → Option (List ℕ)
after_parenthesis a = cond (begins 41 a) (Some (drop 1 a)) (option_and_then (read resource_rest) (destination a))

abbrev pub resource : List ℕ → Option (List ℕ)
resource s = option_and_then after_parenthesis (read resource_start s)

pub resource_yes : (s t : List ℕ) → are_bytes s ≡ true → resource s ≡ Some t → LeavesResource s t
resource_yes s t are e =
    let bytes : AreBytes s = bytes_are s are in
    let x = and_then_some after_parenthesis (read resource_start s) t e in
    let tail : AreBytes x.0 = bytes_kept resource_start s x.0 (sound resource_start s x.0 x.1) bytes in
    elim (cases_bool (begins 41 x.0)) [
      | inl closed ↦
          let k : Some (drop 1 x.0) ≡ Some t = sym (ap (λ (b : Bool). cond b (Some (drop 1 x.0)) (option_and_then (read resource_rest) (destination x.0))) closed) ∙ x.2 in
          let same : drop 1 x.0 ≡ t = cc in
          resources.closed_leaves s x.0 t bytes x.1 (begun 41 x.0 closed ∙ ap (λ y. 41 ∷ y) same)
      | inr other ↦
          let y = and_then_some (read resource_rest) (destination x.0) t (sym (ap (λ (b : Bool). cond b (Some (drop 1 x.0)) (option_and_then (read resource_rest) (destination x.0))) other) ∙ x.2) in
          let d : LeavesDestination x.0 y.0 = found_destination x.0 y.0 tail y.1 in
          resources.rest_leaves s x.0 y.0 t bytes (bytes_left x.0 y.0 tail d.there) x.1 d y.2
    ]

pub resource_no : (s : List ℕ) → are_bytes s ≡ true → resource s ≡ None → IsNoResource s
resource_no s are e =
    let bytes : AreBytes s = bytes_are s are in
    elim (and_then_none after_parenthesis (read resource_start s) e) [
      | inl none ↦ resources.start_none s bytes none
      | inr x ↦
          let tail : AreBytes x.0 = bytes_kept resource_start s x.0 (sound resource_start s x.0 x.1) bytes in
          elim (cases_bool (begins 41 x.0)) [
            | inl closed ↦ (let k : Some (drop 1 x.0) ≡ None = sym (ap (λ (b : Bool). cond b (Some (drop 1 x.0)) (option_and_then (read resource_rest) (destination x.0))) closed) ∙ x.2 in cc)
            | inr other ↦
                elim (and_then_none (read resource_rest) (destination x.0) (sym (ap (λ (b : Bool). cond b (Some (drop 1 x.0)) (option_and_then (read resource_rest) (destination x.0))) other) ∙ x.2)) [
                  | inl none ↦ resources.destination_none s x.0 bytes x.1 (not_begun 41 x.0 (omega arith) other) (missing_destination x.0 tail none)
                  | inr y ↦
                      let d : LeavesDestination x.0 y.0 = found_destination x.0 y.0 tail y.1 in
                      resources.rest_none s x.0 y.0 bytes (bytes_left x.0 y.0 tail d.there) x.1 d y.2
                ]
          ]
    ]

-- The end of the first string of n marks, where run marks stand before an offset.
abbrev string_end_from : (mark n at run : ℕ) → List ℕ → Option ℕ
string_end_from mark n at run [] = cond (run == n) (Some at) None
string_end_from mark n at run (c ∷ u) = cond (c == mark) (string_end_from mark n (at + 1) (run + 1) u) (cond (run == n) (Some at) (string_end_from mark n (at + 1) 0 u))

abbrev pub string_end : (mark n : ℕ) → List ℕ → Option ℕ
string_end mark n text = string_end_from mark n 0 0 text

abbrev Ended : (mark n : ℕ) → List ℕ → Option ℕ → Type 0
Ended mark n text o = MatchOption o (HasNoString mark text n) (λ end. FirstStringEnds mark text n end)

-- what is left to be read of a text from an offset on
pub record Left (text rest : List ℕ) (at : ℕ) : Type 0 where
  pub size : at + length rest ≡ length text
  pub same : (k : ℕ) → slice_index text (at + k) ≡ slice_index rest k

left_behind : (text u : List ℕ) (at c : ℕ) → Left text (c ∷ u) at → Left text u (at + 1)
left_behind text u at c left = record {
  size = omega (arith, left.size);
  same = λ k. ap (slice_index text) (omega arith) ∙ left.same (suc k);
}

first_left : (text u : List ℕ) (at c : ℕ) → Left text (c ∷ u) at → slice_index text at ≡ c
first_left text u at c left = ap (slice_index text) (omega arith) ∙ left.same 0

same_not : (a b : ℕ) → (a == b) ≡ false → a ≢ b
same_not a b e same = (let k : (a == b) ≡ true = subst (λ x. (x == b) ≡ true) (sym same) (number_same b) in let l : true ≡ false = sym k ∙ e in cc)

walked : (mark n at run : ℕ) (text rest : List ℕ) → 0 < n → SoFar mark text n at run → Left text rest at → Ended mark n text (string_end_from mark n at run rest)
walked mark n at run text [] some h left = elim (cases_bool (run == n)) [
  | inl is ↦ subst (λ (b : Bool). Ended mark n text (cond b (Some at) None)) (sym is)
      (ends_at mark text n at run h (same_number run n is) (omega (arith, left.size)) (λ less. absurd (omega (arith, less, left.size))))
  | inr not ↦
      let all : at ≡ length text = omega (arith, left.size) in
      subst (λ (b : Bool). Ended mark n text (cond b (Some at) None)) (sym not)
      (ends_nowhere mark text n run (subst (λ x. SoFar mark text n x run) all h) some (same_not run n not))
]
walked mark n at run text (c ∷ u) some h left = elim (cases_bool (c == mark)) [
  | inl is ↦ subst (λ (b : Bool). Ended mark n text (cond b (string_end_from mark n (at + 1) (run + 1) u) (cond (run == n) (Some at) (string_end_from mark n (at + 1) 0 u)))) (sym is)
      (walked mark n (at + 1) (run + 1) text u some (mark_step mark text n at run h (first_left text u at c left ∙ same_number c mark is)) (left_behind text u at c left))
  | inr other ↦ subst (λ (b : Bool). Ended mark n text (cond b (string_end_from mark n (at + 1) (run + 1) u) (cond (run == n) (Some at) (string_end_from mark n (at + 1) 0 u)))) (sym other)
      (let apart : slice_index text at ≢ mark = (λ same. same_not c mark other (sym (first_left text u at c left) ∙ same)) in elim (cases_bool (run == n)) [
        | inl is ↦ subst (λ (b : Bool). Ended mark n text (cond b (Some at) (string_end_from mark n (at + 1) 0 u))) (sym is)
            (ends_at mark text n at run h (same_number run n is) (omega (arith, left.size)) (λ _. apart))
        | inr not ↦ subst (λ (b : Bool). Ended mark n text (cond b (Some at) (string_end_from mark n (at + 1) 0 u))) (sym not)
            (walked mark n (at + 1) 0 text u some (other_step mark text n at run h some (omega (arith, left.size)) apart (same_not run n not)) (left_behind text u at c left))
      ])
]

all_left : (text : List ℕ) → Left text text 0
all_left text = record { size = omega arith; same = λ k. ap (slice_index text) (omega arith) }

pub string_yes : (mark n : ℕ) (text : List ℕ) (end : ℕ) → 0 < n → string_end mark n text ≡ Some end → FirstStringEnds mark text n end
string_yes mark n text end some e = subst (Ended mark n text) e (walked mark n 0 0 text text some (begin mark text n) (all_left text))

pub string_no : (mark n : ℕ) (text : List ℕ) → 0 < n → string_end mark n text ≡ None → HasNoString mark text n
string_no mark n text some e = subst (Ended mark n text) e (walked mark n 0 0 text text some (begin mark text n) (all_left text))
