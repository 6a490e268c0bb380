-- HTML tags: which one it is by its first bytes, and ends that are missing.
use Rattle.std.proofs.Common.{◌≡◌, ◌≢◌, ℕ, ◌+◌, ◌-◌, ◌<◌, ◌≤◌, true, false, List, [], ◌∷◌, ◌++◌, drop, take, length, Option, Some, None, refl, inl, inr, sym, ◌∙◌, ap, subst, arith, length-append, length-drop, ◌==◌}
use Rattle.std.specs.Prelude.{Bool, IfSome, MatchOption, codes, not, slice_index, ◌&&◌}
use Rattle.std.proofs.lemmas.List.{append_assoc, drop-drop, take-append-drop}
use Rattle.std.proofs.Math.Seq.{drop-append_seam}
use Rattle.std.specs.Option.{is_some, option_or}
use Rattle.commonmark_syntax.specs.Cuts.{IsCut}
use Rattle.commonmark_syntax.specs.HtmlTags.{IsMissing, IsScanned}
use Rattle.commonmark_syntax.specs.Language.{IsNotAt, Leaves, Reads, Syntax, one, through, ◌then◌}
use Rattle.commonmark_syntax.specs.Reading.{Reading, find, read, strip}
use Rattle.commonmark_syntax.specs.Syntax.{begins_short, cdata_section, closing_tag, comment, declaration, html_tag, is_letter, open_tag, processing_instruction, word}
use Rattle.commonmark_syntax.proofs.Fronts.{least}
use Rattle.commonmark_syntax.proofs.Sound.{sound, strip_exact, find_here}
use Rattle.commonmark_syntax.proofs.Tests.{cases_bool, cases_option, or_parts, and_parts, same_number}
use Rattle.commonmark_syntax.proofs.Words.{word_front, word_is}

-- The first bytes of each.
open_second : (s t : List ℕ) → Reads open_tag s t → is_letter (slice_index s 1) ≡ true
open_second s t r = subst (λ c. is_letter c ≡ true) (sym (ap (λ (x : List ℕ). slice_index x 1) r.1.2 ∙ ap (λ (x : List ℕ). slice_index x 0) r.2.1.1.2)) r.2.1.1.1

closing_second : (s t : List ℕ) → Reads closing_tag s t → slice_index s 1 ≡ 47
closing_second s t r = ap (λ (x : List ℕ). slice_index x 1) (word_front (codes "</") s r.0 r.1)

instruction_second : (s t : List ℕ) → Reads processing_instruction s t → slice_index s 1 ≡ 63
instruction_second s t r = ap (λ (x : List ℕ). slice_index x 1) (word_front (codes "<?") s r.0 r.1)

-- what begins with <!
record IsMarked (s : List ℕ) (third : ℕ) : Type 0 where
  second_is : slice_index s 1 ≡ 33
  third_is : slice_index s 2 ≡ third

marked : (s front : List ℕ) → s ≡ front → slice_index front 1 ≡ 33 → IsMarked s (slice_index front 2)
marked s front e second = record {
  second_is = ap (λ (x : List ℕ). slice_index x 1) e ∙ second;
  third_is = ap (λ (x : List ℕ). slice_index x 2) e;
}

comment_marked : (s t : List ℕ) → Reads comment s t → IsMarked s 45
comment_marked s t (inl r) = marked s _ (word_front (codes "<!-->") s t r) refl
comment_marked s t (inr (inl r)) = marked s _ (word_front (codes "<!--->") s t r) refl
comment_marked s t (inr (inr r)) = marked s _ (word_front (codes "<!--") s r.0 r.1) refl

cdata_marked : (s t : List ℕ) → Reads cdata_section s t → IsMarked s 91
cdata_marked s t r = marked s _ (word_front (codes "<![CDATA[") s r.0 r.1) refl

declaration_marked : (s t : List ℕ) → Reads declaration s t → IsMarked s (slice_index s 2) × (is_letter (slice_index s 2) ≡ true)
declaration_marked s t r =
    let front : s ≡ codes "<!" ++ r.0 = word_front (codes "<!") s r.0 r.1 in (
      record { second_is = ap (λ (x : List ℕ). slice_index x 1) front; third_is = refl },
      subst (λ c. is_letter c ≡ true) (sym (ap (λ (x : List ℕ). slice_index x 2) front ∙ ap (λ (x : List ℕ). slice_index x 0) r.2.1.2)) r.2.1.1,
    )

no_letter : (c d : ℕ) → is_letter c ≡ true → c ≡ d → is_letter d ≡ false → ⊥
no_letter c d is same other = (let k : is_letter d ≡ true = subst (λ x. is_letter x ≡ true) same is in cc)

-- Which one it is, by these bytes.
pub only_closing : (s t : List ℕ) → slice_index s 1 ≡ 47 → Reads html_tag s t → Reads closing_tag s t
only_closing s t e (inl r) = absurd (no_letter _ 47 (open_second s t r) e refl)
only_closing s t e (inr (inl r)) = r
only_closing s t e (inr (inr (inl r))) = absurd (omega (arith, e, (comment_marked s t r).second_is))
only_closing s t e (inr (inr (inr (inl r)))) = absurd (omega (arith, e, instruction_second s t r))
only_closing s t e (inr (inr (inr (inr (inl r))))) = absurd (omega (arith, e, (declaration_marked s t r).0.second_is))
only_closing s t e (inr (inr (inr (inr (inr r))))) = absurd (omega (arith, e, (cdata_marked s t r).second_is))

pub only_instruction : (s t : List ℕ) → slice_index s 1 ≡ 63 → Reads html_tag s t → Reads processing_instruction s t
only_instruction s t e (inl r) = absurd (no_letter _ 63 (open_second s t r) e refl)
only_instruction s t e (inr (inl r)) = absurd (omega (arith, e, closing_second s t r))
only_instruction s t e (inr (inr (inl r))) = absurd (omega (arith, e, (comment_marked s t r).second_is))
only_instruction s t e (inr (inr (inr (inl r)))) = r
only_instruction s t e (inr (inr (inr (inr (inl r))))) = absurd (omega (arith, e, (declaration_marked s t r).0.second_is))
only_instruction s t e (inr (inr (inr (inr (inr r))))) = absurd (omega (arith, e, (cdata_marked s t r).second_is))

pub only_open : (s t : List ℕ) → slice_index s 1 ≢ 47 → slice_index s 1 ≢ 63 → slice_index s 1 ≢ 33 → Reads html_tag s t → Reads open_tag s t
only_open s t slash question mark (inl r) = r
only_open s t slash question mark (inr (inl r)) = absurd (slash (closing_second s t r))
only_open s t slash question mark (inr (inr (inl r))) = absurd (mark (comment_marked s t r).second_is)
only_open s t slash question mark (inr (inr (inr (inl r)))) = absurd (question (instruction_second s t r))
only_open s t slash question mark (inr (inr (inr (inr (inl r))))) = absurd (mark (declaration_marked s t r).0.second_is)
only_open s t slash question mark (inr (inr (inr (inr (inr r))))) = absurd (mark (cdata_marked s t r).second_is)

-- what begins with <! is one of three
pub data Marked (s t : List ℕ) : Type 0 where
  a_comment : Reads comment s t → Marked s t
  a_declaration : Reads declaration s t → Marked s t
  a_section : Reads cdata_section s t → Marked s t

only_marked : (s t : List ℕ) → slice_index s 1 ≡ 33 → Reads html_tag s t → Marked s t
only_marked s t e (inl r) = absurd (no_letter _ 33 (open_second s t r) e refl)
only_marked s t e (inr (inl r)) = absurd (omega (arith, e, closing_second s t r))
only_marked s t e (inr (inr (inl r))) = a_comment r
only_marked s t e (inr (inr (inr (inl r)))) = absurd (omega (arith, e, instruction_second s t r))
only_marked s t e (inr (inr (inr (inr (inl r))))) = a_declaration r
only_marked s t e (inr (inr (inr (inr (inr r))))) = a_section r

pub only_comment : (s t : List ℕ) → slice_index s 1 ≡ 33 → slice_index s 2 ≡ 45 → Reads html_tag s t → Reads comment s t
only_comment s t e third r = elim (only_marked s t e r) [
  | a_comment h ↦ h
  | a_declaration h ↦ absurd (no_letter _ 45 (declaration_marked s t h).1 third refl)
  | a_section h ↦ absurd (omega (arith, third, (cdata_marked s t h).third_is))
]

pub only_section : (s t : List ℕ) → slice_index s 1 ≡ 33 → slice_index s 2 ≡ 91 → Reads html_tag s t → Reads cdata_section s t
only_section s t e third r = elim (only_marked s t e r) [
  | a_comment h ↦ absurd (omega (arith, third, (comment_marked s t h).third_is))
  | a_declaration h ↦ absurd (no_letter _ 91 (declaration_marked s t h).1 third refl)
  | a_section h ↦ h
]

pub only_declaration : (s t : List ℕ) → slice_index s 1 ≡ 33 → slice_index s 2 ≢ 45 → slice_index s 2 ≢ 91 → Reads html_tag s t → Reads declaration s t
only_declaration s t e hyphen bracket r = elim (only_marked s t e r) [
  | a_comment h ↦ absurd (hyphen (comment_marked s t h).third_is)
  | a_declaration h ↦ h
  | a_section h ↦ absurd (bracket (cdata_marked s t h).third_is)
]

-- One syntax where another one is the same.
pub same_scanned : (a b : Syntax) (s : List ℕ) (o : Option ℕ) → ((t : List ℕ) → Reads a s t → Reads b s t) → ((t : List ℕ) → Reads b s t → Reads a s t) → IsScanned a s o → IsScanned b s o
same_scanned a b s None to from h = record { exact = λ t r. h.exact t (from t r); most = tt; least = tt; cut = tt }
same_scanned a b s (Some size) to from h = record {
  exact = record { there = to _ h.exact.there; only = λ u r. h.exact.only u (from u r) };
  most = h.most;
  least = h.least;
  cut = h.cut;
}

pub none_scanned : (a : Syntax) (s : List ℕ) → IsNotAt a s → IsScanned a s None
none_scanned a s none = record { exact = none; most = tt; least = tt; cut = tt }

pub scanned : (a : Syntax) (s text : List ℕ) (o : Option ℕ) (n : ℕ) → s ≡ text → 2 ≤ n → MatchOption o (IsNotAt a s) (λ size. Leaves a s (drop size s)) → IfSome o (λ size. size ≤ length s) → IfSome o (λ size. n < size) → IfSome o (λ size. IsCut s size) → IsScanned a text o
scanned a s text None n same le exact most more cut = subst (λ x. IsScanned a x None) same (none_scanned a s exact)
scanned a s text (Some size) n same le exact most more cut =
    subst (λ x. IsScanned a x (Some size)) same (record { exact = exact; most = most; least = omega (arith, le, more); cut = cut })

pub nothing_found : (a : Syntax) (s : List ℕ) (o : Option ℕ) (b : Bool) → MatchOption o (IsNotAt a s) (λ size. Leaves a s (drop size s)) → is_some o ≡ not b → b ≡ true → IsNotAt a s
nothing_found a s None b exact same is = exact
nothing_found a s (Some size) b exact same is = cc

pub begun : {T : Type 0} (a : Syntax) (s : List ℕ) (view : T → List ℕ) (o : Option T) (b : Bool) → Reading a s view o → b ≡ is_some o → b ≡ true → (m : List ℕ) × (read a s ≡ Some m)
begun a s view None b reading same is = cc
begun a s view (Some x) b reading same is = (view x, reading)

-- Ends that are missing.
pub none_at_end : (w text : List ℕ) (n : ℕ) → length text ≡ n → 0 < length w → IsMissing w text n
none_at_end w text n same some before after e =
    omega (arith, ap length e, length-drop n text, length-append before (w ++ after), length-append w after, same, some)

pub missing_later : (w text : List ℕ) (from at : ℕ) → IsMissing w text from → from ≤ at → IsMissing w text at
missing_later w text from at none le before after e =
    none (take (at - from) (drop from text) ++ before) after ((sym (take-append-drop (at - from) (drop from text)) ∙ ap (λ (x : List ℕ). take (at - from) (drop from text) ++ x) (later ∙ e)) ∙ sym (append_assoc (take (at - from) (drop from text)) before (w ++ after)))
  where
    later : drop (at - from) (drop from text) ≡ drop at text
    later = drop-drop (at - from) from text ∙ ap (λ n. drop n text) (omega (arith, le))

-- a text that has w in it begins nowhere where w is missing
none_with : (w before after text s : List ℕ) (from at : ℕ) → s ≡ drop at text → IsMissing w text from → from ≤ at → s ≡ before ++ (w ++ after) → ⊥
none_with w before after text s from at e none le has = missing_later w text from at none le before after (sym e ∙ has)

-- the same of what goes up to w
pub none_through : (start w text s t : List ℕ) (from at : ℕ) → s ≡ drop at text → IsMissing w text from → from ≤ at → Reads (word start then through w) s t → ⊥
none_through start w text s t from at e none le r =
    none_with w (start ++ r.2.0) t text s from at e none le (word_front start s r.0 r.1 ∙ ap (λ (x : List ℕ). start ++ x) r.2.1 ∙ sym (append_assoc start r.2.0 (w ++ t)))

pub no_comment : (text s t : List ℕ) (from at : ℕ) → s ≡ drop at text → IsMissing (codes "-->") text from → from ≤ at → Reads comment s t → ⊥
no_comment text s t from at e none le (inl r) = none_with (codes "-->") (codes "<!") t text s from at e none le (word_front (codes "<!-->") s t r)
no_comment text s t from at e none le (inr (inl r)) = none_with (codes "-->") (codes "<!-") t text s from at e none le (word_front (codes "<!--->") s t r)
no_comment text s t from at e none le (inr (inr r)) = none_through (codes "<!--") (codes "-->") text s t from at e none le (r.0, r.1, r.2.1)

pub no_declaration : (text s t : List ℕ) (from at : ℕ) → s ≡ drop at text → IsMissing (codes ">") text from → from ≤ at → Reads declaration s t → ⊥
no_declaration text s t from at e none le r =
    none_with (codes ">") (60 ∷ 33 ∷ r.2.1.0 ∷ r.2.2.0) t text s from at e none le (word_front (codes "<!") s r.0 r.1 ∙ ap (λ (x : List ℕ). 60 ∷ 33 ∷ x) (r.2.1.2 ∙ ap (λ (x : List ℕ). r.2.1.0 ∷ x) r.2.2.1))

-- Where no end is found, none is there.
or_none : (o p : Option (List ℕ)) → option_or o p ≡ None → p ≡ None
or_none None p e = e
or_none (Some x) p e = cc

somewhere : (w before after : List ℕ) → find w (before ++ (w ++ after)) ≡ None → ⊥
somewhere w [] after e = (let k : find w (w ++ after) ≡ Some after = find_here w (w ++ after) after (strip_exact w after) in cc)
somewhere w (c ∷ before) after e = somewhere w before after (or_none (strip w (c ∷ before ++ (w ++ after))) _ e)

found_missing : (w text s m : List ℕ) (at n : ℕ) → s ≡ drop at text → drop n s ≡ m → ((t : List ℕ) → find w m ≡ Some t → ⊥) → IsMissing w text (at + n)
found_missing w text s m at n e rest none before after has =
    let same : m ≡ before ++ (w ++ after) = sym rest ∙ ap (drop n) e ∙ drop-drop n at text ∙ has in
    elim (cases_option (find w m)) [
      | inl missing ↦ somewhere w before after (sym (ap (find w) same) ∙ missing)
      | inr x ↦ none x.0 x.1
    ]

word_dropped : (w s m : List ℕ) → read (word w) s ≡ Some m → drop (length w) s ≡ m
word_dropped w s m e = ap (drop (length w)) (word_front w s m (sound (word w) s m e)) ∙ drop-append_seam w m

pub missing_through : (start w text s m : List ℕ) (at : ℕ) → s ≡ drop at text → IsNotAt (word start then through w) s → read (word start) s ≡ Some m → IsMissing w text (at + length start)
missing_through start w text s m at e none begins = found_missing w text s m at (length start) e (word_dropped start s m begins)
    (λ t found. none t (m, sound (word start) s m begins, sound (through w) m t found))

word_reads : (w s t : List ℕ) → s ≡ w ++ t → Reads (word w) s t
word_reads w s t e = sound (word w) s t (word_is w s ∙ ap (strip w) e ∙ strip_exact w t)

first_short : (s m u : List ℕ) → s ≡ codes "<!--" ++ m → m ≡ 62 ∷ u → Reads comment s u
first_short s m u front e = inl (word_reads (codes "<!-->") s u (front ∙ ap (λ (x : List ℕ). codes "<!--" ++ x) e))

second_short : (s m u : List ℕ) → s ≡ codes "<!--" ++ m → m ≡ 45 ∷ 62 ∷ u → Reads comment s u
second_short s m u front e = inr (inl (word_reads (codes "<!--->") s u (front ∙ ap (λ (x : List ℕ). codes "<!--" ++ x) e)))

short_read : (s m : List ℕ) → s ≡ codes "<!--" ++ m → begins_short m ≡ true → (t : List ℕ) × Reads comment s t
short_read s [] front short = cc
short_read s (c ∷ []) front short = ([], first_short s (c ∷ []) [] front (ap (λ x. x ∷ []) (same_number c 62 short)))
short_read s (c ∷ d ∷ u) front short = elim (or_parts (c == 62) ((c == 45) && (d == 62)) short) [
  | inl e ↦ (d ∷ u, first_short s (c ∷ d ∷ u) (d ∷ u) front (ap (λ x. x ∷ d ∷ u) (same_number c 62 e)))
  | inr e ↦ (let both : ((c == 45) ≡ true) × ((d == 62) ≡ true) = and_parts _ _ e in
      (u, second_short s (c ∷ d ∷ u) u front (ap (λ x. x ∷ d ∷ u) (same_number c 45 both.0) ∙ ap (λ x. 45 ∷ x ∷ u) (same_number d 62 both.1))))
]

pub missing_comment : (text s m : List ℕ) (at : ℕ) → s ≡ drop at text → IsNotAt comment s → read (word (codes "<!--")) s ≡ Some m → IsMissing (codes "-->") text (at + 4)
missing_comment text s m at e none begins = found_missing (codes "-->") text s m at 4 e (word_dropped (codes "<!--") s m begins)
    (λ t found. elim (cases_bool (begins_short m)) [
      | inl short ↦ (let at_short : (u : List ℕ) × Reads comment s u = short_read s m (word_front (codes "<!--") s m (sound (word (codes "<!--")) s m begins)) short in none at_short.0 at_short.1)
      | inr long ↦ none t (inr (inr (m, sound (word (codes "<!--")) s m begins, (long, sound (through (codes "-->")) m t found))))
    ])

pub missing_declaration : (text s m : List ℕ) (at : ℕ) → s ≡ drop at text → IsNotAt declaration s → read (word (codes "<!") then one is_letter) s ≡ Some m → IsMissing (codes ">") text (at + 3)
missing_declaration text s m at e none begins =
    let r : Reads (word (codes "<!") then one is_letter) s m = sound (word (codes "<!") then one is_letter) s m begins in
    let front : s ≡ 60 ∷ 33 ∷ r.2.0 ∷ m = word_front (codes "<!") s r.0 r.1 ∙ ap (λ (x : List ℕ). 60 ∷ 33 ∷ x) r.2.2 in
    found_missing (codes ">") text s m at 3 e (ap (drop 3) front) (λ t found. none t (r.0, r.1, (m, r.2, sound (through (codes ">")) m t found)))
