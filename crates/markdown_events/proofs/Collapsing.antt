-- What a loop over characters writes that collapses blanks.
use Rattle.std.proofs.Common.{IsAscii, ap₂, suc, ◌≡◌, ℕ, ◌==◌, Bool, true, false, cond, ◌&&◌, ◌||◌, List, [], ◌∷◌, ◌++◌, refl, sym, ap, ◌∙◌, append_assoc, encode_utf8_all, chars}
use Rattle.std.proofs.lemmas.Str.{encodes-append, chars-encodes, scalars-chars, chars-IsAscii, encode_ascii}
use Rattle.std.specs.List.{list_any}
use Rattle.std.specs.Str.{IsUtf8}
use lib.Utf8.{scalar, scalars}
use Rattle.markdown_events.specs.declared.text.Blanks.{Blanks}
use Rattle.markdown_events.specs.Texts.{is_blank, starts_with_blank, without_trailing_blanks, without_first_space, collapsed}
use Rattle.markdown_events.specs.TextWalks.{blanks_after, collapsed_part}
use Rattle.markdown_events.proofs.Booleans.{and-both, and-left, and-right}

-- what is written for these characters after those blanks
abbrev pub collapse_walk : List ℕ → Blanks → List ℕ
collapse_walk [] before = []
collapse_walk (c ∷ cs) before = collapsed_part before c ++ collapse_walk cs (blanks_after before c)

-- one character more, in a loop over characters whose walk over all is known as far as it has come
pub carried : (W : List ℕ → List ℕ) (text text' part ys rest tail : List ℕ) (c : ℕ) → text' ≡ text ++ encode_utf8_all part
    → text ++ encode_utf8_all (part ++ tail) ≡ encode_utf8_all (W (ys ++ c ∷ rest)) → text' ++ encode_utf8_all tail ≡ encode_utf8_all (W ((ys ++ c ∷ []) ++ rest))
carried W text text' part ys rest tail c e known =
    ap (λ x. x ++ encode_utf8_all tail) e
    ∙ append_assoc text (encode_utf8_all part) (encode_utf8_all tail)
    ∙ ap (λ x. text ++ x) (sym (encodes-append part tail))
    ∙ known
    ∙ ap (λ x. encode_utf8_all (W x)) (sym (append_assoc ys (c ∷ []) rest))

abbrev pub before_all : Blanks
before_all = record { started = false; pending = false }

abbrev after : Blanks
after = record { started = true; pending = false }

abbrev waiting : Blanks
waiting = record { started = true; pending = true }

collapse_blank : (c : ℕ) (cs : List ℕ) (s : Blanks) → is_blank c ≡ true → collapse_walk (c ∷ cs) s ≡ collapse_walk cs (record { started = s.started; pending = s.started })
collapse_blank c cs s e = (λ i. cond (e i) [] (cond s.pending (32 ∷ c ∷ []) (c ∷ [])) ++ collapse_walk cs (cond (e i) (record { started = s.started; pending = s.started }) after))

collapse_other : (c : ℕ) (cs : List ℕ) (s : Blanks) → is_blank c ≡ false → collapse_walk (c ∷ cs) s ≡ cond s.pending (32 ∷ c ∷ []) (c ∷ []) ++ collapse_walk cs after
collapse_other c cs s e = (λ i. cond (e i) [] (cond s.pending (32 ∷ c ∷ []) (c ∷ [])) ++ collapse_walk cs (cond (e i) (record { started = s.started; pending = s.started }) after))

-- what one blank becomes
abbrev joint : List ℕ → List ℕ
joint cs = cond (starts_with_blank cs) (without_trailing_blanks cs) (32 ∷ without_trailing_blanks cs)

trail_blank : (c : ℕ) (cs : List ℕ) → is_blank c ≡ true → without_trailing_blanks (c ∷ cs) ≡ joint cs
trail_blank c cs e = ap (λ b. cond b (joint cs) (c ∷ without_trailing_blanks cs)) e

trail_other : (c : ℕ) (cs : List ℕ) → is_blank c ≡ false → without_trailing_blanks (c ∷ cs) ≡ c ∷ without_trailing_blanks cs
trail_other c cs e = ap (λ b. cond b (joint cs) (c ∷ without_trailing_blanks cs)) e

joint_blank : (c : ℕ) (cs : List ℕ) (b : Bool) → is_blank c ≡ b → joint (c ∷ cs) ≡ cond b (without_trailing_blanks (c ∷ cs)) (32 ∷ without_trailing_blanks (c ∷ cs))
joint_blank c cs b e = ap (λ x. cond x (without_trailing_blanks (c ∷ cs)) (32 ∷ without_trailing_blanks (c ∷ cs))) e

abbrev Both : List ℕ → Type 0
Both cs = (collapse_walk cs waiting ≡ joint cs) × (collapse_walk cs after ≡ without_trailing_blanks cs)

both_at : (c : ℕ) (cs : List ℕ) → Both cs → (b : Bool) → is_blank c ≡ b → Both (c ∷ cs)
both_at c cs ih true e = (
  collapse_blank c cs waiting e ∙ ih.0 ∙ sym (trail_blank c cs e) ∙ sym (joint_blank c cs true e),
  collapse_blank c cs after e ∙ ih.0 ∙ sym (trail_blank c cs e),
)
both_at c cs ih false e = (
  collapse_other c cs waiting e ∙ ap (λ x. 32 ∷ c ∷ x) ih.1 ∙ ap (λ x. 32 ∷ x) (sym (trail_other c cs e)) ∙ sym (joint_blank c cs false e),
  collapse_other c cs after e ∙ ap (λ x. c ∷ x) ih.1 ∙ sym (trail_other c cs e),
)

both : (cs : List ℕ) → Both cs
both [] = (refl, refl)
both (c ∷ cs) = both_at c cs (both cs) (is_blank c) refl

or_right : (a b : Bool) → (a || b) ≡ false → b ≡ false
or_right true b e = let z : true ≡ false = e in absurd (let w : ⊥ = cc in w)
or_right false b e = e

kept : (d : ℕ) (x : List ℕ) → is_blank d ≡ false → without_first_space (d ∷ x) ≡ d ∷ x
kept d x e = ap (λ b. cond b x (d ∷ x)) (or_right (d == 9 || d == 10 || d == 13) (d == 32) e)

lead : (cs : List ℕ) (b : Bool) → starts_with_blank cs ≡ b → without_first_space (cond b (without_trailing_blanks cs) (32 ∷ without_trailing_blanks cs)) ≡ without_first_space (without_trailing_blanks cs)
lead cs true e = refl
lead [] false e = let z : true ≡ false = e in absurd (let w : ⊥ = cc in w)
lead (d ∷ ds) false e = trail_other d ds e ∙ sym (kept d (without_trailing_blanks ds) e) ∙ ap without_first_space (sym (trail_other d ds e))

first_at : (c : ℕ) (cs : List ℕ) → collapse_walk cs before_all ≡ collapsed cs → (b : Bool) → is_blank c ≡ b → collapse_walk (c ∷ cs) before_all ≡ collapsed (c ∷ cs)
first_at c cs ih true e = collapse_blank c cs before_all e ∙ ih ∙ sym (lead cs (starts_with_blank cs) refl) ∙ ap without_first_space (sym (trail_blank c cs e))
first_at c cs ih false e =
    collapse_other c cs before_all e ∙ ap (λ x. c ∷ x) (both cs).1 ∙ sym (kept c (without_trailing_blanks cs) e) ∙ ap without_first_space (sym (trail_other c cs e))

pub collapses : (cs : List ℕ) → collapse_walk cs before_all ≡ collapsed cs
collapses [] = refl
collapses (c ∷ cs) = first_at c cs (collapses cs) (is_blank c) refl

-- ---- A text without blanks is collapsed as it is

or_left : (a b : Bool) → (a || b) ≡ false → a ≡ false
or_left true b e = e
or_left false b e = refl

unblanked : (cs : List ℕ) → list_any is_blank cs ≡ false → without_trailing_blanks cs ≡ cs
unblanked [] e = refl
unblanked (c ∷ cs) e = trail_other c cs (or_left (is_blank c) (list_any is_blank cs) e) ∙ ap (λ x. c ∷ x) (unblanked cs (or_right (is_blank c) (list_any is_blank cs) e))

whole : (cs : List ℕ) → list_any is_blank cs ≡ false → collapsed cs ≡ cs
whole [] e = refl
whole (c ∷ cs) e = ap without_first_space (unblanked (c ∷ cs) e) ∙ kept c cs (or_left (is_blank c) (list_any is_blank cs) e)

own_bytes : (bs : List ℕ) → IsAscii bs → encode_utf8_all bs ≡ bs
own_bytes [] ascii = refl
own_bytes (b ∷ bs) ascii = ap₂ (λ (s t : List ℕ). s ++ t) (encode_ascii b (ascii 0)) (own_bytes bs (λ i. ascii (suc i)))

pub collapsed_word : (bs : List ℕ) → IsAscii bs → list_any is_blank bs ≡ false → encode_utf8_all (collapsed (chars bs)) ≡ bs
collapsed_word bs ascii none = ap (λ cs. encode_utf8_all (collapsed cs)) (chars-IsAscii bs ascii) ∙ ap encode_utf8_all (whole bs none) ∙ own_bytes bs ascii

-- ---- What is collapsed is of characters

scalars_joint : (b : Bool) (x : List ℕ) → scalars x ≡ true → scalars (cond b x (32 ∷ x)) ≡ true
scalars_joint true x h = h
scalars_joint false x h = h

scalars_trail_at : (c : ℕ) (cs : List ℕ) → scalar c ≡ true → scalars (without_trailing_blanks cs) ≡ true → (b : Bool) → is_blank c ≡ b → scalars (without_trailing_blanks (c ∷ cs)) ≡ true
scalars_trail_at c cs h ih true e = ap scalars (trail_blank c cs e) ∙ scalars_joint (starts_with_blank cs) (without_trailing_blanks cs) ih
scalars_trail_at c cs h ih false e = ap scalars (trail_other c cs e) ∙ and-both (scalar c) (scalars (without_trailing_blanks cs)) h ih

scalars_trail : (cs : List ℕ) → scalars cs ≡ true → scalars (without_trailing_blanks cs) ≡ true
scalars_trail [] h = refl
scalars_trail (c ∷ cs) h = scalars_trail_at c cs (and-left (scalar c) (scalars cs) h) (scalars_trail cs (and-right (scalar c) (scalars cs) h)) (is_blank c) refl

scalars_first_at : (b : Bool) (c : ℕ) (cs : List ℕ) → scalars (c ∷ cs) ≡ true → scalars (cond b cs (c ∷ cs)) ≡ true
scalars_first_at true c cs h = and-right (scalar c) (scalars cs) h
scalars_first_at false c cs h = h

scalars_first : (cs : List ℕ) → scalars cs ≡ true → scalars (without_first_space cs) ≡ true
scalars_first [] h = refl
scalars_first (c ∷ cs) h = scalars_first_at (c == 32) c cs h

pub collapsed_chars : (bs : List ℕ) → IsUtf8 bs → chars (encode_utf8_all (collapsed (chars bs))) ≡ collapsed (chars bs)
collapsed_chars bs u = chars-encodes (collapsed (chars bs)) (scalars_first (without_trailing_blanks (chars bs)) (scalars_trail (chars bs) (scalars-chars bs u)))
