-- Link reference definitions, as they are read part by part.
use Rattle.std.proofs.Common.{◌≡◌, ◌≢◌, ℕ, ◌+◌, ◌-◌, ◌≤◌, ◌<◌, length-drop, List, [], ◌∷◌, Option, Some, None, drop, length, refl, inl, inr, sym, subst, ◌∙◌, ap, arith}
use Rattle.std.proofs.lemmas.List.{drop-drop, get_or-drop}
use Rattle.std.specs.Prelude.{option_and_then, slice_index}
use Rattle.commonmark_syntax.specs.Cuts.{IsCut}
use Rattle.commonmark_syntax.specs.Definitions.{EndsDefinition, IsDefinition, IsNoDefinition, LeavesDefinition, definition_start, line_end, titled_end}
use Rattle.commonmark_syntax.specs.Language.{IsAt, IsNotAt, Leaves, Reads, many, one, ◌then◌}
use Rattle.commonmark_syntax.specs.Parentheses.{IsDestination, IsNoDestination, LeavesDestination}
use Rattle.commonmark_syntax.specs.Reading.{are_apart, everything, is_within, read}
use Rattle.commonmark_syntax.specs.Syntax.{blanks, byte, is_blank, link_label, some_blanks, title}
use Rattle.commonmark_syntax.proofs.Blanks.{either}
use Rattle.commonmark_syntax.proofs.Clear.{link_label_clear, title_clear}
use Rattle.commonmark_syntax.proofs.Exact.{exact}
use Rattle.commonmark_syntax.proofs.Fronts.{AreBytes, progress_strict}
use Rattle.commonmark_syntax.proofs.Resources.{at_solid, destination_solid, byte_read, no_title as title_none, other_byte}
use Rattle.commonmark_syntax.proofs.Scans.{clearly}
use Rattle.commonmark_syntax.proofs.Sound.{sound}
use Rattle.commonmark_syntax.proofs.Tests.{cases_option}

start_exact : (s a b : List ℕ) → AreBytes s → Reads definition_start s a → IsDestination a b → read definition_start s ≡ Some a
unfolding are_apart is_within
start_exact s a b bytes r d = exact definition_start at_solid refl s a bytes r (destination_solid a b d)

titled_exact : (b t : List ℕ) → AreBytes b → Reads titled_end b t → read titled_end b ≡ Some t
unfolding are_apart is_within
titled_exact b t bytes r = exact titled_end everything refl b t bytes r refl

line_exact : (b t : List ℕ) → AreBytes b → Reads line_end b t → read line_end b ≡ Some t
unfolding are_apart is_within
line_exact b t bytes r = exact line_end everything refl b t bytes r refl

-- the start, by its parts
pub started : (s l m a : List ℕ) → read link_label s ≡ Some l → read (byte 58) l ≡ Some m → read blanks m ≡ Some a → read definition_start s ≡ Some a
started s l m a label colon space = ap (option_and_then (read (byte 58 then blanks))) label ∙ ap (option_and_then (read blanks)) colon ∙ space

pub no_label : (s : List ℕ) → read link_label s ≡ None → read definition_start s ≡ None
no_label s label = ap (option_and_then (read (byte 58 then blanks))) label

pub no_colon : (s l : List ℕ) → read link_label s ≡ Some l → read (byte 58) l ≡ None → read definition_start s ≡ None
no_colon s l label colon = ap (option_and_then (read (byte 58 then blanks))) label ∙ ap (option_and_then (read blanks)) colon

pub start_none : (s : List ℕ) → AreBytes s → read definition_start s ≡ None → IsNoDefinition s
start_none s bytes missing t r = (let k : None ≡ Some r.0 = sym missing ∙ start_exact s r.0 r.1 bytes r.2 r.3 in cc)

-- what comes after the start
same_start : (s a t : List ℕ) → AreBytes s → read definition_start s ≡ Some a → IsDefinition s t → (b : List ℕ) × IsDestination a b × EndsDefinition b t
same_start s a t bytes start r =
    let k : Some a ≡ Some r.0 = sym start ∙ start_exact s r.0 r.1 bytes r.2 r.3 in
    let same : r.0 ≡ a = cc in
    (r.1, subst (λ x. IsDestination x r.1) same r.3, r.4)

pub destination_none : (s a : List ℕ) → AreBytes s → read definition_start s ≡ Some a → IsNoDestination a → IsNoDefinition s
destination_none s a bytes start none t r =
    let x : (b : List ℕ) × IsDestination a b × EndsDefinition b t = same_start s a t bytes start r in none x.0 x.1

same_end : (s a b t : List ℕ) → AreBytes s → read definition_start s ≡ Some a → LeavesDestination a b → IsDefinition s t → EndsDefinition b t
same_end s a b t bytes start d r =
    let x : (c : List ℕ) × IsDestination a c × EndsDefinition c t = same_start s a t bytes start r in
    subst (λ y. EndsDefinition y t) (d.only x.0 x.1) x.2

pub end_none : (s a b : List ℕ) → AreBytes s → AreBytes b → read definition_start s ≡ Some a → LeavesDestination a b → IsNotAt titled_end b → read line_end b ≡ None → IsNoDefinition s
end_none s a b bytes tail start d untitled missing t r = elim (same_end s a b t bytes start d r) [
  | inl x ↦ untitled t x
  | inr x ↦ (let k : None ≡ Some t = sym missing ∙ line_exact b t tail x.1 in cc)
]

pub titled_leaves : (s a b t : List ℕ) → AreBytes s → AreBytes b → read definition_start s ≡ Some a → LeavesDestination a b → read titled_end b ≡ Some t → LeavesDefinition s t
titled_leaves s a b t bytes tail start d found = record {
  there = (a, b, sound definition_start s a start, d.there, inl (sound titled_end b t found));
  only = λ u r. elim (same_end s a b u bytes start d r) [
    | inl x ↦ (let k : Some u ≡ Some t = sym (titled_exact b u tail x) ∙ found in cc)
    | inr x ↦ absurd (x.0 t (sound titled_end b t found))
  ];
}

pub bare_leaves : (s a b t : List ℕ) → AreBytes s → AreBytes b → read definition_start s ≡ Some a → LeavesDestination a b → IsNotAt titled_end b → read line_end b ≡ Some t → LeavesDefinition s t
bare_leaves s a b t bytes tail start d untitled found = record {
  there = (a, b, sound definition_start s a start, d.there, inr (untitled, sound line_end b t found));
  only = λ u r. elim (same_end s a b u bytes start d r) [
    | inl x ↦ absurd (untitled u x)
    | inr x ↦ (let k : Some u ≡ Some t = sym (line_exact b u tail x.1) ∙ found in cc)
  ];
}

-- no title, where nothing is read as one
pub untitled : (b : List ℕ) → AreBytes b → read titled_end b ≡ None → IsNotAt titled_end b
untitled b bytes missing t r = (let k : None ≡ Some t = sym missing ∙ titled_exact b t bytes r in cc)

feed_read : (s : List ℕ) → slice_index s 0 ≡ 10 → read (byte 10) s ≡ Some (drop 1 s)
feed_read [] feed = cc
feed_read (c ∷ u) feed = subst (λ x. read (byte 10) (x ∷ u) ≡ Some u) (sym feed) refl

-- the end of a line, by how many spaces and tabs come before it
pub line_ends : (s : List ℕ) (n : ℕ) → read (many (one is_blank)) s ≡ Some (drop n s) → slice_index s n ≡ 10 → read line_end s ≡ Some (drop (n + 1) s)
line_ends s n blank feed = ap (option_and_then (read (byte 10))) blank ∙ feed_read (drop n s) (get_or-drop n s 0 0 ∙ here) ∙ ap Some (drop-drop 1 n s)
  where
    here : slice_index s (n + 0) ≡ 10
    here = ap (slice_index s) (omega (arith)) ∙ feed

pub line_goes_on : (s : List ℕ) (n : ℕ) → read (many (one is_blank)) s ≡ Some (drop n s) → slice_index s n ≢ 10 → read line_end s ≡ None
line_goes_on s n blank other = ap (option_and_then (read (byte 10))) blank ∙ other_byte 10 (drop n s) (λ feed. other (ap (slice_index s) (omega (arith)) ∙ sym (get_or-drop n s 0 0) ∙ feed))

-- a title after some white space, or none
pub no_space : (b : List ℕ) → read blanks b ≡ Some b → read titled_end b ≡ None
no_space b first = elim (either b b first) [
  | inl x ↦ absurd (omega (arith, progress_strict some_blanks b b refl (sound some_blanks b b x)))
  | inr x ↦ ap (option_and_then (read (title then line_end))) x.0
]

spaced : (b e : List ℕ) → read blanks b ≡ Some e → length e < length b → read some_blanks b ≡ Some e
spaced b e first apart = elim (either b e first) [
  | inl x ↦ x
  | inr x ↦ absurd (omega (arith, apart, ap length x.1))
]

pub no_title : (b e : List ℕ) → read blanks b ≡ Some e → length e < length b → IsNotAt title e → read titled_end b ≡ None
no_title b e first apart none =
    ap (option_and_then (read (title then line_end))) (spaced b e first apart) ∙ ap (option_and_then (read line_end)) (title_none e none)

pub titled_then : (b e g : List ℕ) (size : ℕ) (o : Option (List ℕ)) → AreBytes e → read blanks b ≡ Some e → length e < length b → Leaves title e (drop size e) → g ≡ drop size e → read line_end g ≡ o → read titled_end b ≡ o
titled_then b e g size o bytes first apart leaves rest last =
    ap (option_and_then (read (title then line_end))) (spaced b e first apart)
    ∙ ap (option_and_then (read line_end)) (clearly title e title_clear bytes (drop size e) leaves.there ∙ ap Some (sym rest)) ∙ last

-- where a title may begin: after white space at an offset of a text
pub title_place : (text b e : List ℕ) (offset space : ℕ) → b ≡ drop offset text → e ≡ drop (offset + space) text → read blanks b ≡ Some (drop space b) → 0 < space → space ≤ length b → (read blanks b ≡ Some e) × (length e < length b)
title_place text b e offset space here there first some most =
    let is : e ≡ drop space b = there ∙ sym (drop-drop space offset text) ∙ ap (drop space) (sym here) in
    (first ∙ ap Some (sym is), omega (arith, ap length is, length-drop space b, some, most))

label_at : (text s : List ℕ) (start size at : ℕ) → AreBytes s → s ≡ drop start text → at ≡ start + size → Leaves link_label s (drop size s) → read link_label s ≡ Some (drop at text)
label_at text s start size at bytes here is label =
    clearly link_label s link_label_clear bytes (drop size s) label.there
    ∙ ap Some (ap (drop size) here ∙ drop-drop size start text ∙ ap (λ n. drop n text) (sym is))

-- the start of a definition at an offset of a text, and what is none
pub start_at : (text s l m : List ℕ) (start size at space : ℕ) → AreBytes s → s ≡ drop start text → at ≡ start + size → Leaves link_label s (drop size s) → l ≡ drop at text → read (byte 58) l ≡ Some m → read blanks m ≡ Some (drop space m) → read definition_start s ≡ Some (drop (at + 1 + space) text)
start_at text s l m start size at space bytes here is label behind colon blank =
    let there : m ≡ drop (at + 1) text = (byte_read 58 l m colon).0 ∙ ap (drop 1) behind ∙ drop-drop 1 at text in
    started s (drop at text) m (drop (at + 1 + space) text) (label_at text s start size at bytes here is label)
    (ap (read (byte 58)) (sym behind) ∙ colon)
    (blank ∙ ap Some (ap (drop space) there ∙ drop-drop space (at + 1) text))

pub start_fails : (text s l : List ℕ) (start size at : ℕ) → AreBytes s → s ≡ drop start text → at ≡ start + size → Leaves link_label s (drop size s) → l ≡ drop at text → read (byte 58) l ≡ None → IsNoDefinition s
start_fails text s l start size at bytes here is label behind other =
    start_none s bytes (no_colon s (drop at text) (label_at text s start size at bytes here is label) (ap (read (byte 58)) (sym behind) ∙ other))

pub unlabeled : (s : List ℕ) → AreBytes s → IsNotAt link_label s → IsNoDefinition s
unlabeled s bytes none = start_none s bytes (no_label s (elim (cases_option (read link_label s)) [
  | inl e ↦ e
  | inr x ↦ absurd (none x.0 (sound link_label s x.0 x.1))
]))

pub line_there : (b : List ℕ) → AreBytes b → IsAt line_end b → read line_end b ≡ None → ⊥
line_there b bytes at missing = (let k : None ≡ Some at.0 = sym missing ∙ line_exact b at.0 bytes at.1 in cc)

-- where a text may be cut: at a byte of ASCII, and after it
pub first_at : (text : List ℕ) (at : ℕ) → slice_index (drop at text) 0 ≡ slice_index text at
first_at text at = get_or-drop at text 0 0 ∙ ap (slice_index text) (omega (arith))

pub cut_at_byte : (text : List ℕ) (at b : ℕ) → slice_index text at ≡ b → b < 128 → IsCut text at
cut_at_byte text at b is low some less high = subst (λ x. x < 128) (sym is) low

pub cut_after_byte : (text : List ℕ) (at m b : ℕ) → m ≡ at + 1 → slice_index text at ≡ b → b < 128 → IsCut text m
cut_after_byte text at m b is here low some less high =
    let before : m - 1 ≡ at = omega (arith, is) in
    let same : slice_index text (m - 1) ≡ b = ap (slice_index text) before ∙ here in
    absurd (omega (arith, high, same, low))
