-- What is found in a part of a text, in the whole, and tokens in order.
use Rattle.std.proofs.Common.{◌≡◌, ◌≤◌, ◌<◌, ◌+◌, ◌-◌, ◌∷◌, ◌∙◌, ◌≢◌, Bool, List, None, Option, Some, [], ap, arith, drop, false, inl, inr, is_some, length, refl, slice_index, slice_range, subst, suc, sym, take, true, zero, ℕ}
use Rattle.std.proofs.lemmas.List.{drop-drop, drop-take, take-take}
use Rattle.commonmark_syntax.specs.Cuts.{IsCut}
use Rattle.markdown_text.proofs.Found.{plain_found}
use Rattle.markdown_text.proofs.Parts.{ascii_in, byte_in, cut_in, get_in, length_in, part_in, range_in, range_rest, rest_range}
use Rattle.markdown_text.specs.Constructs.{IsMarker}
use Rattle.markdown_text.specs.Contents.{IsRange}
use Rattle.markdown_text.specs.Texts.{text_of}
use Rattle.markdown_text.specs.Tokens.{BeginsLabel, IsAfterLabel, IsDestination, IsEnclosed, IsFound, IsReference, IsResource, IsTarget, IsToken, marker, markers}
use Rattle.markdown_text.specs.declared.character_reference.ReferenceKind.{ReferenceKind}
use Rattle.markdown_text.specs.declared.resource.Resource.{Resource}
use Rattle.markdown_text.specs.declared.token.Labelled.{Labelled}
use Rattle.markdown_text.specs.declared.token.Labelled.TheVariants.{FootnoteCall, Image, Link}
use Rattle.markdown_text.specs.declared.token.Target.{Target}
use Rattle.markdown_text.specs.declared.token.Target.TheVariants.{Collapsed, Full, Shortcut, Resource as InResource}
use Rattle.markdown_text.specs.declared.token.TokenKind.{TokenKind}
use Rattle.markdown_text.specs.declared.token.TokenKind.TheVariants.{Attention, Autolink, AutolinkLiteral, CharacterEscape, CharacterReference, CodeText, HardBreakEscape, HtmlText, LabelEnd, LabelStart, LineEnding, MathText, TaskListItemCheck}

-- what is enclosed
pub enclosed_in : (bytes text : List ℕ) (from to size i j a b : ℕ) → text ≡ slice_range bytes from to → IsRange bytes from to → a ≡ from + i → b ≡ from + j → IsEnclosed text size i j → IsEnclosed bytes size a b
enclosed_in bytes text from to size i j a b is range first last marks =
    let order = marks.order in
    let open_order = (marks.opening).order in
    let close_order = (marks.closing).order in
    record {
      order = omega (arith, order, first, last, open_order, close_order);
      opening = part_in bytes text from to i (i + size) a (a + size) is range first (omega (arith, first)) marks.opening;
      closing = part_in bytes text from to (j - size) j (b - size) b is range (omega (arith, last, order, open_order, close_order)) last marks.closing;
    }

-- a range of a range
range_of_range : (bytes text : List ℕ) (from to i j a b : ℕ) → text ≡ slice_range bytes from to → a ≡ from + i → b ≡ from + j → i ≤ j → b ≤ to → slice_range text i j ≡ slice_range bytes a b
range_of_range bytes text from to i j a b is first last order within =
    let e : to - from ≡ i + (to - from - i) = omega (arith, last, within, order) in
    let f : from + i ≡ a = sym first in
    let g : j - i ≡ b - a = omega (arith, first, last) in
    let h : j - i ≤ to - from - i = omega (arith, last, within) in
    ap (λ (xs : List ℕ). take (j - i) (drop i xs)) is
    ∙ ap (λ (n : ℕ). take (j - i) (drop i (take n (drop from bytes)))) e
    ∙ ap (take (j - i)) (drop-take i (to - from - i) (drop from bytes))
    ∙ take-take (j - i) (to - from - i) (drop i (drop from bytes)) h
    ∙ ap (take (j - i)) (drop-drop i from bytes ∙ ap (λ (n : ℕ). drop n bytes) f)
    ∙ ap (λ (n : ℕ). take n (drop a bytes)) g

reference_in : (bytes text : List ℕ) (decode : List ℕ → ℕ → Option (List ℕ)) (from to : ℕ) (kind : ReferenceKind) (i j a b : ℕ) → text ≡ slice_range bytes from to → IsRange bytes from to → a ≡ from + i → b ≡ from + j → IsReference (text_of text decode false) kind i j → IsReference (text_of bytes decode false) kind a b
reference_in bytes text decode from to kind i j a b is range first last h =
    let filled = h.filled in
    let size = length_in bytes text from to is range in
    let within = ((h.ascii).part).within in
    let order = range.order in
    record {
      ascii = ascii_in bytes text from to i j a b is range first last h.ascii;
      filled = omega (arith, filled, first, last);
      known = subst (λ (xs : List ℕ). is_some (decode xs (marker kind)) ≡ true)
          (range_of_range bytes text from to (i + markers kind) (j - 1) (a + markers kind) (b - 1) is (omega (arith, first)) (omega (arith, last, filled)) (omega (arith, filled)) (omega (arith, last, size, within, order)))
          h.known;
    }

-- a destination
pub destination_in : (bytes text : List ℕ) (from to i j a b : ℕ) → text ≡ slice_range bytes from to → IsRange bytes from to → a ≡ from + i → b ≡ from + j → IsDestination text i j → IsDestination bytes a b
destination_in bytes text from to i j a b is range first last h =
    let size = length_in bytes text from to is range in
    let within = (h.part).within in
    let order = range.order in
    record {
      part = part_in bytes text from to i j a b is range first last h.part;
      enclosed = λ some mark.
          enclosed_in bytes text from to 1 i j a b is range first last
          (h.enclosed (omega (arith, some, first, last)) (byte_in bytes text from to i a is first (omega (arith, some, last, size, within, order)) ∙ mark));
    }

resource_in : (bytes text : List ℕ) (from to : ℕ) (r : Resource) (i j a b : ℕ) → text ≡ slice_range bytes from to → IsRange bytes from to → a ≡ from + i → b ≡ from + j → IsResource text r i j → IsResource bytes r a b
resource_in bytes text from to r i j a b is range first last h =
    let whole = h.whole in
    let sum = h.size in
    let within = ((h.marks).closing).within in
    record {
      size = h.size;
      whole = omega (arith, whole, first, last);
      marks = enclosed_in bytes text from to 1 i j a b is range first last h.marks;
      destination = destination_in bytes text from to (i + (1 + r.before)) (i + (1 + r.before) + r.destination) (a + (1 + r.before)) (a + (1 + r.before) + r.destination) is range (omega (arith, first)) (omega (arith, first)) h.destination;
      between = cut_in bytes text from to (i + (1 + r.before + r.destination + r.between)) (a + (1 + r.before + r.destination + r.between)) is range (omega (arith, first)) (omega (arith, whole, sum, within)) h.between;
      title = λ some.
          enclosed_in bytes text from to 1 (i + (1 + r.before + r.destination + r.between)) (i + (1 + r.before + r.destination + r.between) + r.title) (a + (1 + r.before + r.destination + r.between)) (a + (1 + r.before + r.destination + r.between) + r.title) is range (omega (arith, first)) (omega (arith, first)) (h.title some);
    }

-- what comes after a label
pub target_in : (bytes text : List ℕ) (from to : ℕ) (target : Target) (i j a b : ℕ) → text ≡ slice_range bytes from to → IsRange bytes from to → a ≡ from + i → b ≡ from + j → IsTarget text target i j → IsTarget bytes target a b
target_in bytes text from to Shortcut i j a b is range first last h = omega (arith, first, last, h)
target_in bytes text from to Collapsed i j a b is range first last h = enclosed_in bytes text from to 1 i j a b is range first last h
target_in bytes text from to Full i j a b is range first last h = enclosed_in bytes text from to 1 i j a b is range first last h
target_in bytes text from to (InResource r) i j a b is range first last h = resource_in bytes text from to r i j a b is range first last h

label_in : (bytes text : List ℕ) (from to : ℕ) (label : Labelled) (target : Target) (i j a b : ℕ) → text ≡ slice_range bytes from to → IsRange bytes from to → a ≡ from + i → b ≡ from + j → IsAfterLabel text label target i j → IsAfterLabel bytes label target a b
label_in bytes text from to FootnoteCall target i j a b is range first last h = let same = h.1 in (h.0, omega (arith, first, last, same))
label_in bytes text from to Link target i j a b is range first last h = target_in bytes text from to target i j a b is range first last h
label_in bytes text from to Image target i j a b is range first last h = target_in bytes text from to target i j a b is range first last h

-- a byte that is no null
some_index : (xs : List ℕ) (i : ℕ) → slice_index xs i ≢ 0 → i < length xs
some_index [] i some = absurd (some refl)
some_index (x ∷ xs) zero some = omega arith
some_index (x ∷ xs) (suc i) some = let less = some_index xs i some in omega (arith, less)

some_byte_in : (bytes text : List ℕ) (from to i a : ℕ) → text ≡ slice_range bytes from to → IsRange bytes from to → a ≡ from + i → slice_index text i ≢ 0 → slice_index text i ≡ slice_index bytes a
some_byte_in bytes text from to i a is range first some =
    let size = length_in bytes text from to is range in
    let less = some_index text i some in
    byte_in bytes text from to i a is first (omega (arith, first, size, less))

no_marker : (byte : ℕ) → IsMarker byte → byte ≢ 0
no_marker byte (inl is) none = absurd (omega (arith, is, none))
no_marker byte (inr (inl is)) none = absurd (omega (arith, is, none))
no_marker byte (inr (inr is)) none = absurd (omega (arith, is, none))

no_label_start : (byte : ℕ) → BeginsLabel byte → byte ≢ 0
no_label_start byte (inl is) none = absurd (omega (arith, is, none))
no_label_start byte (inr is) none = absurd (omega (arith, is, none))

no_bracket : (byte : ℕ) → byte ≡ 93 → byte ≢ 0
no_bracket byte is none = absurd (omega (arith, is, none))

token_in : (bytes text : List ℕ) (decode : List ℕ → ℕ → Option (List ℕ)) (from to : ℕ) (kind : TokenKind) (i j a b : ℕ) → text ≡ slice_range bytes from to → IsRange bytes from to → a ≡ from + i → b ≡ from + j → IsToken (text_of text decode false) kind i j → IsToken (text_of bytes decode false) kind a b
token_in bytes text decode from to LineEnding i j a b is range first last t = let size = t.0 in (omega (arith, first, last, size), get_in bytes text from to i a 10 is range first t.1)
token_in bytes text decode from to HardBreakEscape i j a b is range first last t =
    let size = t.1 in
    (ascii_in bytes text from to i (i + 1) a (a + 1) is range first (omega (arith, first)) t.0, omega (arith, first, last, size), get_in bytes text from to (i + 1) (a + 1) 10 is range (omega (arith, first)) t.2)
token_in bytes text decode from to CharacterEscape i j a b is range first last t = let size = t.1 in (ascii_in bytes text from to i j a b is range first last t.0, omega (arith, first, last, size))
token_in bytes text decode from to (CharacterReference kind) i j a b is range first last t = reference_in bytes text decode from to kind i j a b is range first last t
token_in bytes text decode from to (CodeText n) i j a b is range first last t = (t.0, enclosed_in bytes text from to n i j a b is range first last t.1)
token_in bytes text decode from to (MathText n) i j a b is range first last t = (t.0, enclosed_in bytes text from to n i j a b is range first last t.1)
token_in bytes text decode from to (Autolink name) i j a b is range first last t =
    let filled = t.filled in
    record {
      part = part_in bytes text from to i j a b is range first last t.part;
      marks = enclosed_in bytes text from to 1 i j a b is range first last t.marks;
      filled = omega (arith, first, last, filled);
      named = t.named;
    }
token_in bytes text decode from to HtmlText i j a b is range first last t = range_in bytes text from to i j a b is range first last t
token_in bytes text decode from to (AutolinkLiteral name) i j a b is range first last t = (part_in bytes text from to i j a b is range first last t.0, t.1)
token_in bytes text decode from to Attention i j a b is range first last t =
    (ascii_in bytes text from to i j a b is range first last t.0, subst IsMarker (some_byte_in bytes text from to i a is range first (no_marker (slice_index text i) t.1)) t.1)
token_in bytes text decode from to (LabelStart None) i j a b is range first last t =
    (ascii_in bytes text from to i j a b is range first last t.0, tt, subst BeginsLabel (some_byte_in bytes text from to i a is range first (no_label_start (slice_index text i) t.2)) t.2)
token_in bytes text decode from to (LabelStart (Some label)) i j a b is range first last t =
    let size = t.1 in
    (ascii_in bytes text from to i j a b is range first last t.0, omega (arith, first, last, size), subst BeginsLabel (some_byte_in bytes text from to i a is range first (no_label_start (slice_index text i) t.2)) t.2)
token_in bytes text decode from to (LabelEnd label target) i j a b is range first last t = (
  part_in bytes text from to i (i + 1) a (a + 1) is range first (omega (arith, first)) t.0,
  label_in bytes text from to label target (i + 1) j (a + 1) b is range (omega (arith, first)) last t.1,
  range_in bytes text from to (i + 1) j (a + 1) b is range (omega (arith, first)) last t.2,
  sym (some_byte_in bytes text from to i a is range first (no_bracket (slice_index text i) t.3)) ∙ t.3,
)
token_in bytes text decode from to (TaskListItemCheck checked) i j a b is range first last t = let marked = t.0 in absurd (cc marked)

in_same : (bytes text : List ℕ) (decode : List ℕ → ℕ → Option (List ℕ)) (from to : ℕ) (kind : Option TokenKind) (i j a b : ℕ) → text ≡ slice_range bytes from to → IsRange bytes from to → a ≡ from + i → b ≡ from + j → IsFound (text_of text decode false) kind i j → IsFound (text_of bytes decode false) kind a b
in_same bytes text decode from to None i j a b is range first last t = part_in bytes text from to i j a b is range first last t
in_same bytes text decode from to (Some kind) i j a b is range first last t = token_in bytes text decode from to kind i j a b is range first last t

-- what is found in a part of a text is found in the whole, which may begin with the mark of a task
pub found_in : (bytes text : List ℕ) (decode : List ℕ → ℕ → Option (List ℕ)) (task : Bool) (from to : ℕ) (kind : Option TokenKind) (i j a b : ℕ) → text ≡ slice_range bytes from to → IsRange bytes from to → a ≡ from + i → b ≡ from + j → IsFound (text_of text decode false) kind i j → IsFound (text_of bytes decode task) kind a b
found_in bytes text decode task from to kind i j a b is range first last t = plain_found bytes decode task kind a b (in_same bytes text decode from to kind i j a b is range first last t)

-- the same after a cut
pub found_rest : (bytes text : List ℕ) (decode : List ℕ → ℕ → Option (List ℕ)) (at : ℕ) (kind : Option TokenKind) (size : ℕ) → text ≡ drop at bytes → at ≤ length bytes → IsCut bytes at → IsFound (text_of text decode false) kind 0 size → IsFound (text_of bytes decode false) kind at (at + size)
found_rest bytes text decode at kind size is within cut t = found_in bytes text decode false at (length bytes) kind 0 size at (at + size) (is ∙ rest_range bytes at) (range_rest bytes at within cut) (omega arith) (omega arith) t

-- ---- Tokens in order
