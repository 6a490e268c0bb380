-- Blocks of HTML: the name in a tag, what an open tag leaves, the seven conditions, and the ends.
use Rattle.std.proofs.Common.{◌≡◌, ◌≢◌, ◌==◌, ℕ, ◌-◌, ◌<◌, Bool, true, false, cond, List, [], ◌∷◌, ◌++◌, drop, take, length, Option, Some, None, refl, inl, inr, sym, ◌∙◌, ap, subst, arith, length-append}
use Rattle.std.specs.Prelude.{option_and_then, slice_index}
use Rattle.std.specs.Option.{is_some, option_or}
use Rattle.std.proofs.Math.Seq.{take-append_seam}
use Rattle.commonmark_syntax.specs.Blocks.{blank_to_end}
use Rattle.commonmark_syntax.specs.Html.{IsIn, basic_start, complete_opening, condition, declaration_start, front, html_start, raw_end, raw_start}
use Rattle.commonmark_syntax.specs.Language.{IsAt, IsNotAt, Reads, Syntax, many, one, through, ◌or◌}
use Rattle.commonmark_syntax.specs.Reading.{Reading, behind_run, find, read, strip}
use Rattle.commonmark_syntax.specs.Syntax.{open_tag, word}
use Rattle.commonmark_syntax.specs.declared.html_block.Kind.{Kind}
use Rattle.commonmark_syntax.specs.declared.html_block.Kind.TheVariants as html
use Rattle.commonmark_syntax.proofs.Fronts.{AreBytes}
use Rattle.commonmark_syntax.proofs.Goes.{goes_read}
use Rattle.commonmark_syntax.proofs.Loops.{many_is_all}
use Rattle.commonmark_syntax.proofs.OpenTag.{open_tag_goes}
use Rattle.commonmark_syntax.proofs.Sound.{find_here, sound, strip_exact}
use Rattle.commonmark_syntax.proofs.Tests.{cases_bool, cases_option, same_number}
use Rattle.commonmark_syntax.proofs.Words.{word_front, word_is}

-- the name in a tag, as far as it goes
front_parts : (p : ℕ → Bool) (s : List ℕ) → s ≡ front p s ++ behind_run p s
front_parts p [] = refl
front_parts p (c ∷ u) = elim (cases_bool (p c)) [
  | inl e ↦ rw e (ap (λ (x : List ℕ). c ∷ x) (front_parts p u))
  | inr e ↦ rw e refl
]

pub front_taken : (p : ℕ → Bool) (s t : List ℕ) → read (many (one p)) s ≡ Some t → take (length s - length t) s ≡ front p s
front_taken p s t e =
    let rest : behind_run p s ≡ t = (let k : Some (behind_run p s) ≡ Some t = sym (many_is_all p s) ∙ e in cc) in
    let whole : s ≡ front p s ++ t = front_parts p s ∙ ap (λ (x : List ℕ). front p s ++ x) rest in
    let size : length s - length t ≡ length (front p s) = omega (arith, ap length whole, length-append {A = ℕ}) in
    ap (λ n. take n s) size ∙ ap (take (length (front p s))) whole ∙ take-append_seam (front p s) t

-- an open tag alone in a line is read
pub opening_read : (s t : List ℕ) → AreBytes s → Reads complete_opening s t → read complete_opening s ≡ Some t
opening_read s t bytes r =
    ap (option_and_then (read blank_to_end)) (ap (λ b. cond b None (read open_tag s)) r.1.0 ∙ goes_read open_tag open_tag_goes s r.0 bytes r.1.1)
    ∙ ap (λ b. cond b None (Some r.0)) r.2.0 ∙ ap Some r.2.1

-- Blocks of HTML begin with <.
front_byte : (s u : List ℕ) (c : ℕ) → s ≡ c ∷ u → (c == 60) ≡ true → slice_index s 0 ≡ 60
front_byte s u c e is = ap (λ (x : List ℕ). slice_index x 0) e ∙ same_number c 60 is

begins_html : (kind : Kind) (s t : List ℕ) → Reads (html_start kind) s t → slice_index s 0 ≡ 60
begins_html html.Raw s t r = front_byte s r.0 r.1.0 r.1.2 r.1.1
begins_html html.Comment s t r = front_byte s r.0 r.1.0 r.1.2 r.1.1
begins_html html.Instruction s t r = front_byte s r.0 r.1.0 r.1.2 r.1.1
begins_html html.Declaration s t r = front_byte s r.1.0 r.1.1.0 r.1.1.2 r.1.1.1
begins_html html.Cdata s t r = front_byte s r.0 r.1.0 r.1.2 r.1.1
begins_html html.Basic s t r = front_byte s r.0 r.1.0 r.1.2 r.1.1
begins_html html.Complete s t (inl r) = front_byte s r.1.1.0 r.1.1.1.0 r.1.1.1.2 r.1.1.1.1
begins_html html.Complete s t (inr r) = front_byte s r.1.1.0 r.1.1.1.0 r.1.1.1.2 r.1.1.1.1

pub none_begins : (s : List ℕ) → slice_index s 0 ≢ 60 → (kind : Kind) → IsNotAt (html_start kind) s
none_begins s other kind t r = other (begins_html kind s t r)

-- The conditions before one do not hold.
pub before_basic : (s : List ℕ) → IsNotAt raw_start s → IsNotAt (html_start html.Comment) s → IsNotAt (html_start html.Instruction) s → IsNotAt declaration_start s → IsNotAt (html_start html.Cdata) s
    → (other : Kind) → condition other < 6 → IsNotAt (html_start other) s
before_basic s a b c d e html.Raw less = a
before_basic s a b c d e html.Comment less = b
before_basic s a b c d e html.Instruction less = c
before_basic s a b c d e html.Declaration less = d
before_basic s a b c d e html.Cdata less = e
before_basic s a b c d e html.Basic less = absurd (omega arith)
before_basic s a b c d e html.Complete less = absurd (omega arith)

pub before_complete : (s : List ℕ) → IsNotAt raw_start s → IsNotAt (html_start html.Comment) s → IsNotAt (html_start html.Instruction) s → IsNotAt declaration_start s → IsNotAt (html_start html.Cdata) s → IsNotAt basic_start s
    → (other : Kind) → condition other < 7 → IsNotAt (html_start other) s
before_complete s a b c d e f html.Raw less = a
before_complete s a b c d e f html.Comment less = b
before_complete s a b c d e f html.Instruction less = c
before_complete s a b c d e f html.Declaration less = d
before_complete s a b c d e f html.Cdata less = e
before_complete s a b c d e f html.Basic less = f
before_complete s a b c d e f html.Complete less = absurd (omega arith)

pub neither : (a b : Syntax) (s : List ℕ) → IsNotAt a s → IsNotAt b s → IsNotAt (a or b) s
neither a b s first second t (inl r) = first t r
neither a b s first second t (inr r) = second t r

pub at_first : (a b : Syntax) (s : List ℕ) → IsAt a s → IsAt (a or b) s
at_first a b s r = (r.0, inl r.1)

pub at_second : (a b : Syntax) (s : List ℕ) → IsAt b s → IsAt (a or b) s
at_second a b s r = (r.0, inr r.1)

pub none_holds : (s : List ℕ) → IsNotAt raw_start s → IsNotAt (html_start html.Comment) s → IsNotAt (html_start html.Instruction) s → IsNotAt declaration_start s → IsNotAt (html_start html.Cdata) s → IsNotAt basic_start s
    → IsNotAt (html_start html.Complete) s → (other : Kind) → IsNotAt (html_start other) s
none_holds s a b c d e f g html.Raw = a
none_holds s a b c d e f g html.Comment = b
none_holds s a b c d e f g html.Instruction = c
none_holds s a b c d e f g html.Declaration = d
none_holds s a b c d e f g html.Cdata = e
none_holds s a b c d e f g html.Basic = f
none_holds s a b c d e f g html.Complete = g

-- A word somewhere in a text.
word_reads : (w t : List ℕ) → Reads (word w) (w ++ t) t
word_reads w t = sound (word w) (w ++ t) t (word_is w (w ++ t) ∙ strip_exact w t)

pub word_in : (w s : List ℕ) → IsAt (through w) s → IsIn (word w) s
word_in w s r = (r.1.0, w ++ r.0, r.1.1, (r.0, word_reads w r.0))

find_some : (w before s t : List ℕ) → s ≡ before ++ (w ++ t) → (u : List ℕ) × (find w s ≡ Some u)
find_some w [] s t e = (t, find_here w s t (ap (strip w) e ∙ strip_exact w t))
find_some w (c ∷ before) s t e =
    let later : (u : List ℕ) × (find w (before ++ (w ++ t)) ≡ Some u) = find_some w before (before ++ (w ++ t)) t refl in
    elim (cases_option (strip w (c ∷ (before ++ (w ++ t))))) [
      | inl missing ↦ (later.0, ap (find w) e ∙ ap (λ o. option_or o (find w (before ++ (w ++ t)))) missing ∙ later.1)
      | inr x ↦ (x.0, ap (find w) e ∙ ap (λ o. option_or o (find w (before ++ (w ++ t)))) x.1)
    ]

pub word_not_in : {T : Type 0} (w s : List ℕ) (view : T → List ℕ) (o : Option T) (b : Bool) → Reading (through w) s view o → b ≡ is_some o → b ≡ false → IsIn (word w) s → ⊥
word_not_in w s view None b reading same missing there =
    let found : (u : List ℕ) × (find w s ≡ Some u) = find_some w there.0 s there.3.0 (there.2 ∙ ap (λ (x : List ℕ). there.0 ++ x) (word_front w there.1 there.3.0 there.3.1)) in
    let k : find w s ≡ Some found.0 = found.1 in cc
word_not_in w s view (Some x) b reading same missing there = cc

-- A text of a syntax somewhere in a text.
pub in_longer : (a : Syntax) (s : List ℕ) → IsIn a (drop 1 s) → IsIn a s
in_longer a [] r = r
in_longer a (c ∷ u) r = (c ∷ r.0, r.1, ap (λ (x : List ℕ). c ∷ x) r.2, r.3)

later_in : (a : Syntax) (c : ℕ) (u before rest : List ℕ) → IsNotAt a (c ∷ u) → c ∷ u ≡ before ++ rest → IsAt a rest → IsIn a u
later_in a c u [] rest missing e at = absurd (missing at.0 (subst (λ x. Reads a x at.0) (sym e) at.1))
later_in a c u (d ∷ before) rest missing e at = (before, rest, (let k : u ≡ before ++ rest = cc in k), at)

pub in_later : (a : Syntax) (s : List ℕ) → 0 < length s → IsNotAt a s → IsIn a s → IsIn a (drop 1 s)
in_later a [] some missing r = absurd (omega arith)
in_later a (c ∷ u) some missing r = later_in a c u r.0 r.1 missing r.2 r.3

pub in_here : (a : Syntax) (s : List ℕ) → IsAt a s → IsIn a s
in_here a s at = ([], s, refl, at)
