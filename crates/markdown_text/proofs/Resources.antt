-- The parts of a resource.
use Rattle.std.proofs.Common.{None, Option, Some, ◌≡◌, ◌≢◌, ◌≤◌, ◌<◌, ◌+◌, ◌-◌, ◌∙◌, List, ap, arith, drop, length, length-drop, refl, slice_index, subst, sym, ℕ}
use Rattle.std.proofs.lemmas.List.{get_or-drop}
use Rattle.std.specs.Prelude.{IfSome}
use Rattle.commonmark_syntax.specs.Cuts.{IsCut, IsInLine}
use Rattle.commonmark_syntax.proofs.Cuts.{cut_drop}
use Rattle.markdown_text.proofs.Parts.{ascii_byte, cut_start, range_rest, rest_range}
use Rattle.markdown_text.proofs.Tokens.{destination_in, enclosed_in}
use Rattle.markdown_text.specs.Contents.{IsPart}
use Rattle.markdown_text.specs.Tokens.{IsDestination, IsEnclosed, IsResource}
use Rattle.markdown_text.specs.declared.resource.Resource.{Resource}

-- a part of ASCII as such
byte_part : (bytes : List ℕ) (at to byte : ℕ) → to ≡ at + 1 → at < length bytes → slice_index bytes at ≡ byte → byte < 128 → byte ≢ 10 → IsPart bytes at to
byte_part bytes at to byte end within is low other =
    subst (IsPart bytes at) (sym end) (ascii_byte bytes at within (omega (arith, is, low)) (λ feed. other (sym is ∙ feed))).part

-- two bytes of ASCII at the ends
pub marks_enclose : (bytes : List ℕ) (size first last : ℕ) → 1 < size → size ≤ length bytes → slice_index bytes 0 ≡ first → slice_index bytes (size - 1) ≡ last → first < 128 → first ≢ 10 → last < 128 → last ≢ 10 → IsEnclosed bytes 1 0 size
marks_enclose bytes size first last some within opening closing low other high more = record {
  order = omega (arith, some);
  opening = byte_part bytes 0 1 first (omega arith) (omega (arith, some, within)) opening low other;
  closing = byte_part bytes (size - 1) size last (omega (arith, some)) (omega (arith, some, within)) closing high more;
}

-- the destination that a text begins with
destination_found : (text : List ℕ) (size : ℕ) → size ≤ length text → IsCut text size → IsInLine text size → (slice_index text 0 ≡ 60 → (1 < size) × (slice_index text (size - 1) ≡ 62)) → IsDestination text 0 size
destination_found text size most cut line marks = record {
  part = record { order = omega arith; within = most; line = λ k from less. line k less; start = cut_start text; end = cut };
  enclosed = λ some angle. (let m : (1 < size) × (slice_index text (size - 1) ≡ 62) = marks angle in
      marks_enclose text size 60 62 m.0 most angle m.1 (omega arith) (λ e. absurd (cc e)) (omega arith) (λ e. absurd (cc e)));
}

pub destination_scanned : (text : List ℕ) (o : Option ℕ) → IfSome o (λ size. size ≤ length text) → IfSome o (λ size. IsCut text size) → IfSome o (λ size. IsInLine text size) → (slice_index text 0 ≡ 60 → IfSome o (λ size. (1 < size) × (slice_index text (size - 1) ≡ 62))) → IfSome o (λ size. IsDestination text 0 size)
destination_scanned text None most cut line marks = tt
destination_scanned text (Some size) most cut line marks = destination_found text size most cut line marks

-- a resource, by what its parts begin
pub resource_is : (text r1 r2 r3 r5 : List ℕ) (r : Resource) → slice_index text 0 ≡ 40 → r1 ≡ drop (1 + r.before) text → r2 ≡ drop (1 + r.before + r.destination) text → r3 ≡ drop (1 + r.before + r.destination + r.between) text → r5 ≡ drop (1 + r.before + r.destination + r.between + r.title + r.after) text → 0 < length r5 → slice_index r5 0 ≡ 41 → IsCut text (1 + r.before) → IsDestination r1 0 r.destination → IsCut r2 r.between → (0 < r.title → IsEnclosed r3 1 0 r.title) → 1 + r.before + r.destination + r.between + r.title + r.after + 1 ≡ r.size → IsResource text r 0 r.size
resource_is text r1 r2 r3 r5 r opening is1 is2 is3 is5 some closing cut1 destination cut2 title sum =
    let l5 = ap (λ (xs : List ℕ). length xs) is5 ∙ length-drop (1 + r.before + r.destination + r.between + r.title + r.after) text in
    let within : r.size ≤ length text = omega (arith, l5, some, sum) in
    let cut_destination : IsCut text (1 + r.before + r.destination) = cut_drop text (1 + r.before) r.destination (1 + r.before + r.destination) refl cut1 (subst (λ (xs : List ℕ). IsCut xs r.destination) is1 (destination.part).end) in
    let cut_between : IsCut text (1 + r.before + r.destination + r.between) = cut_drop text (1 + r.before + r.destination) r.between (1 + r.before + r.destination + r.between) refl cut_destination (subst (λ (xs : List ℕ). IsCut xs r.between) is2 cut2) in
    let o5 : 1 + r.before + r.destination + r.between + r.title + r.after + 0 ≡ r.size - 1 = omega (arith, sum) in
    let last : slice_index text (r.size - 1) ≡ 41 =
    ap (slice_index text) (sym o5) ∙ sym (get_or-drop (1 + r.before + r.destination + r.between + r.title + r.after) text 0 0) ∙ ap (λ (xs : List ℕ). slice_index xs 0) (sym is5) ∙ closing in
    record {
      size = sum;
      whole = omega arith;
      marks = marks_enclose text r.size 40 41 (omega (arith, sum)) within opening last (omega arith) (λ e. absurd (cc e)) (omega arith) (λ e. absurd (cc e));
      destination = destination_in text r1 (1 + r.before) (length text) 0 r.destination (0 + (1 + r.before)) (0 + (1 + r.before) + r.destination) (is1 ∙ rest_range text (1 + r.before)) (range_rest text (1 + r.before) (omega (arith, within, sum)) cut1) (omega arith) (omega arith) destination;
      between = cut_drop text (1 + r.before + r.destination) r.between (0 + (1 + r.before + r.destination + r.between)) (omega arith) cut_destination (subst (λ (xs : List ℕ). IsCut xs r.between) is2 cut2);
      title = λ filled. enclosed_in text r3 (1 + r.before + r.destination + r.between) (length text) 1 0 r.title (0 + (1 + r.before + r.destination + r.between)) (0 + (1 + r.before + r.destination + r.between) + r.title) (is3 ∙ rest_range text (1 + r.before + r.destination + r.between)) (range_rest text (1 + r.before + r.destination + r.between) (omega (arith, within, sum)) cut_between) (omega arith) (omega arith) (title filled);
    }
