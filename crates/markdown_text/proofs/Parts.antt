-- Cuts and parts of texts, and those of a text in another.
use Rattle.std.proofs.Common.{◌≡◌, ◌≢◌, ◌≤◌, ◌<◌, ◌+◌, ◌-◌, ◌∙◌, ◌⊎◌, List, Some, ℕ, ap, arith, drop, get_or, inl, inr, length, length-drop, refl, slice_get, slice_index, slice_range, subst, sym}
use Rattle.std.proofs.lemmas.Bool.{cases_lt}
use Rattle.std.proofs.lemmas.List.{drop-drop, get_or-drop, get_or-take, length-take-le, take_rest}
use Rattle.std.proofs.lemmas.Option.{get_or_from_slice_get, slice_get-get_or, slice_get_within}
use Rattle.commonmark_syntax.specs.Cuts.{IsCut, IsInLine, IsRunOf}
use Rattle.commonmark_syntax.proofs.Cuts.{cut_between, line_drop}
use Rattle.markdown_text.specs.Contents.{IsAsciiPart, IsPart, IsRange}

-- ---- Cuts

-- at the start
pub cut_start : (bytes : List ℕ) → IsCut bytes 0
cut_start bytes = λ some. absurd (omega (arith, some))

-- at the end
pub cut_end : (bytes : List ℕ) → IsCut bytes (length bytes)
cut_end bytes = λ some within. absurd (omega (arith, within))

-- before a byte of ASCII
pub cut_before : (bytes : List ℕ) (i : ℕ) → slice_index bytes i < 128 → IsCut bytes i
cut_before bytes i ascii = λ some within high. ascii

-- after a byte of ASCII
pub cut_after : (bytes : List ℕ) (i : ℕ) → slice_index bytes i < 128 → IsCut bytes (i + 1)
cut_after bytes i ascii =
    λ some within high.
    let e : i + 1 - 1 ≡ i = omega arith in
    let same = ap (slice_index bytes) e in
    absurd (omega (arith, high, same, ascii))

-- where a text ends, or a byte of ASCII comes next
pub cut_where : (bytes : List ℕ) (i : ℕ) → i ≤ length bytes → (i < length bytes → slice_index bytes i < 128) → IsCut bytes i
cut_where bytes i within next = λ some less high. next less

-- ---- Parts

-- nothing
pub part_none : (bytes : List ℕ) (a : ℕ) → a ≤ length bytes → IsCut bytes a → IsPart bytes a a
part_none bytes a within cut = record {
  order = omega arith;
  within = within;
  line = λ k from to. absurd (omega (arith, from, to));
  start = cut;
  end = cut;
}

-- a part, and the one after it
pub part_join : (bytes : List ℕ) (a b c : ℕ) → IsPart bytes a b → IsPart bytes b c → IsPart bytes a c
part_join bytes a b c p q =
    let first = p.order in
    let second = q.order in
    record { order = omega (arith, first, second); within = q.within; line = λ k from to. by k from to (cases_lt k b); start = p.start; end = q.end }
  where
    by : (k : ℕ) → a ≤ k → k < c → (k < b) ⊎ (b ≤ k) → get_or bytes k 0 ≢ 10
    by k from to (inl less) = p.line k from less
    by k from to (inr more) = q.line k more to

-- one byte of ASCII in a line
pub ascii_byte : (bytes : List ℕ) (a : ℕ) → a < length bytes → slice_index bytes a < 128 → slice_index bytes a ≢ 10 → IsAsciiPart bytes a (a + 1)
ascii_byte bytes a within ascii other = record {
  part = record {
    order = omega arith;
    within = omega (arith, within);
    line = λ k from to feed. other (at k from to ∙ feed);
    start = cut_before bytes a ascii;
    end = cut_after bytes a ascii;
  };
  ascii = λ k from to. let same = at k from to in omega (arith, same, ascii);
}
  where
    at : (k : ℕ) → a ≤ k → k < a + 1 → slice_index bytes a ≡ slice_index bytes k
    at k from to = let e : a ≡ k = omega (arith, from, to) in ap (slice_index bytes) e

-- bytes of ASCII in a line
pub ascii_run : (bytes : List ℕ) (a b : ℕ) → a < b → b ≤ length bytes → ((k : ℕ) → a ≤ k → k < b → slice_index bytes k < 128) → ((k : ℕ) → a ≤ k → k < b → slice_index bytes k ≢ 10) → IsAsciiPart bytes a b
ascii_run bytes a b some within ascii line =
    let last = cut_after bytes (b - 1) (ascii (b - 1) (omega (arith, some)) (omega (arith, some))) in
    let e : b - 1 + 1 ≡ b = omega (arith, some) in
    record {
      part = record { order = omega (arith, some); within = within; line = line; start = cut_before bytes a (ascii a (omega arith) some); end = subst (IsCut bytes) e last };
      ascii = ascii;
    }

-- a run of a byte of ASCII
pub run_part : (bytes : List ℕ) (a b byte : ℕ) → a < b → b ≤ length bytes → byte < 128 → byte ≢ 10 → ((k : ℕ) → a ≤ k → k < b → slice_index bytes k ≡ byte) → IsAsciiPart bytes a b
run_part bytes a b byte some within ascii other run =
    ascii_run bytes a b some within (λ k from to. let same = run k from to in omega (arith, same, ascii)) (λ k from to feed. other (sym (run k from to) ∙ feed))

-- a byte and a run of it after it
pub run_from : (bytes rest : List ℕ) (at size : ℕ) → 0 < size → at + size ≤ length bytes → rest ≡ drop at bytes → slice_index bytes at < 128 → slice_index bytes at ≢ 10 → IsRunOf rest (slice_index rest 0) size → IsAsciiPart bytes at (at + size)
run_from bytes rest at size some within is ascii other run =
    run_part bytes at (at + size) (slice_index bytes at) (omega (arith, some)) within ascii other (λ k from to. by k from to)
  where
    place : (k : ℕ) → slice_index rest k ≡ slice_index bytes (at + k)
    place k = ap (λ (x : List ℕ). slice_index x k) is ∙ get_or-drop at bytes k 0

    by : (k : ℕ) → at ≤ k → k < at + size → slice_index bytes k ≡ slice_index bytes at
    by k from to =
        let e : at + (k - at) ≡ k = omega (arith, from) in
        let f : at + 0 ≡ at = omega arith in
        ap (slice_index bytes) (sym e) ∙ sym (place (k - at)) ∙ run (k - at) (omega (arith, from, to)) ∙ place 0 ∙ ap (slice_index bytes) f

-- bytes of a line, from a cut to another
pub part_line : (bytes : List ℕ) (size : ℕ) → size ≤ length bytes → IsInLine bytes size → IsCut bytes size → IsPart bytes 0 size
part_line bytes size within line cut = record { order = omega arith; within = within; line = λ k from to. line k to; start = cut_start bytes; end = cut }

-- ---- Ranges

-- a part is a range
pub range_of : (bytes : List ℕ) (a b : ℕ) → IsPart bytes a b → IsRange bytes a b
range_of bytes a b part = record { order = part.order; within = part.within; start = part.start; end = part.end }

-- a range, and the one after it
pub range_join : (bytes : List ℕ) (a b c : ℕ) → IsRange bytes a b → IsRange bytes b c → IsRange bytes a c
range_join bytes a b c p q =
    let first = p.order in
    let second = q.order in
    record { order = omega (arith, first, second); within = q.within; start = p.start; end = q.end }

-- all after a cut
pub range_rest : (bytes : List ℕ) (at : ℕ) → at ≤ length bytes → IsCut bytes at → IsRange bytes at (length bytes)
range_rest bytes at within cut = record { order = within; within = omega arith; start = cut; end = cut_end bytes }

-- ---- A text in another

-- what comes after an offset is a range
pub rest_range : (bytes : List ℕ) (at : ℕ) → drop at bytes ≡ slice_range bytes at (length bytes)
rest_range bytes at = sym (take_rest bytes at)

-- its length
pub length_in : (bytes text : List ℕ) (from to : ℕ) → text ≡ slice_range bytes from to → IsRange bytes from to → length text ≡ to - from
length_in bytes text from to is range =
    let order = range.order in
    let within = range.within in
    let l = length-drop from bytes in
    ap (λ (xs : List ℕ). length xs) is ∙ length-take-le (to - from) (drop from bytes) (omega (arith, l, within))

-- a byte of it
pub byte_in : (bytes text : List ℕ) (from to i a : ℕ) → text ≡ slice_range bytes from to → a ≡ from + i → a < to → slice_index text i ≡ slice_index bytes a
byte_in bytes text from to i a is same within =
    ap (λ (xs : List ℕ). get_or xs i 0) is ∙ get_or-take (to - from) (drop from bytes) i 0 (omega (arith, same, within)) ∙ get_or-drop from bytes i 0 ∙ ap (slice_index bytes) (sym same)

-- the same, where it is known that there is one
pub get_in : (bytes text : List ℕ) (from to i a b : ℕ) → text ≡ slice_range bytes from to → IsRange bytes from to → a ≡ from + i → slice_get text i ≡ Some b → slice_get bytes a ≡ Some b
get_in bytes text from to i a b is range same at =
    let within = range.within in
    let order = range.order in
    let less = slice_get_within text i b at in
    let size = length_in bytes text from to is range in
    let byte : get_or bytes a 0 ≡ b = sym (byte_in bytes text from to i a is same (omega (arith, less, size, same))) ∙ get_or_from_slice_get text i b 0 at in
    slice_get-get_or bytes a 0 (omega (arith, less, size, same, within)) ∙ ap (λ (n : ℕ). Some n) byte

-- a cut of it
pub cut_in : (bytes text : List ℕ) (from to i a : ℕ) → text ≡ slice_range bytes from to → IsRange bytes from to → a ≡ from + i → i ≤ length text → IsCut text i → IsCut bytes a
cut_in bytes text from to i a is range same within cut =
    let size = length_in bytes text from to is range in
    let order = range.order in
    cut_between bytes from to i a same (omega (arith, same, within, size, order)) range.start range.end (subst (λ (xs : List ℕ). IsCut xs i) is cut)

-- a part of it
pub part_in : (bytes text : List ℕ) (from to i j a b : ℕ) → text ≡ slice_range bytes from to → IsRange bytes from to → a ≡ from + i → b ≡ from + j → IsPart text i j → IsPart bytes a b
part_in bytes text from to i j a b is range first last part =
    let size = length_in bytes text from to is range in
    let order = part.order in
    let within = part.within in
    let whole = range.within in
    let turn = range.order in
    record {
      order = omega (arith, order, first, last);
      within = omega (arith, size, within, last, whole, turn);
      line = λ k from_k to_k feed.
          part.line (k - from) (omega (arith, from_k, first)) (omega (arith, from_k, to_k, first, last))
          (byte_in bytes text from to (k - from) k is (omega (arith, from_k, first)) (omega (arith, to_k, last, within, size, turn)) ∙ feed);
      start = cut_in bytes text from to i a is range first (omega (arith, order, within)) part.start;
      end = cut_in bytes text from to j b is range last within part.end;
    }

-- a part of it that is ASCII
pub ascii_in : (bytes text : List ℕ) (from to i j a b : ℕ) → text ≡ slice_range bytes from to → IsRange bytes from to → a ≡ from + i → b ≡ from + j → IsAsciiPart text i j → IsAsciiPart bytes a b
ascii_in bytes text from to i j a b is range first last part =
    let size = length_in bytes text from to is range in
    let within = (part.part).within in
    let turn = range.order in
    record {
      part = part_in bytes text from to i j a b is range first last part.part;
      ascii = λ k from_k to_k.
          let same = byte_in bytes text from to (k - from) k is (omega (arith, from_k, first)) (omega (arith, to_k, last, within, size, turn)) in
          let low = part.ascii (k - from) (omega (arith, from_k, first)) (omega (arith, from_k, to_k, first, last)) in
          omega (arith, same, low);
    }

-- a range of it
pub range_in : (bytes text : List ℕ) (from to i j a b : ℕ) → text ≡ slice_range bytes from to → IsRange bytes from to → a ≡ from + i → b ≡ from + j → IsRange text i j → IsRange bytes a b
range_in bytes text from to i j a b is range first last part =
    let size = length_in bytes text from to is range in
    let order = part.order in
    let within = part.within in
    let whole = range.within in
    let turn = range.order in
    record {
      order = omega (arith, order, first, last);
      within = omega (arith, size, within, last, whole, turn);
      start = cut_in bytes text from to i a is range first (omega (arith, order, within)) part.start;
      end = cut_in bytes text from to j b is range last within part.end;
    }

-- bytes of a line from a cut on, up to a byte of ASCII or the end
pub part_after : (bytes : List ℕ) (at n : ℕ) → at + n ≤ length bytes → IsCut bytes at → IsInLine (drop at bytes) n → (at + n < length bytes → slice_index bytes (at + n) < 128) → IsPart bytes at (at + n)
part_after bytes at n within cut line next = record {
  order = omega arith;
  within = within;
  line = λ k from to feed.
      let e : at + (k - at) ≡ k = omega (arith, from) in
      line (k - at) (omega (arith, from, to)) (get_or-drop at bytes (k - at) 0 ∙ ap (slice_index bytes) e ∙ feed);
  start = cut;
  end = cut_where bytes (at + n) within next;
}

-- such bytes in two steps
pub part_after_two : (bytes : List ℕ) (at n m : ℕ) → at + (n + m) ≤ length bytes → IsCut bytes at → IsInLine (drop at bytes) n → IsInLine (drop (at + n) bytes) m → (at + (n + m) < length bytes → slice_index bytes (at + (n + m)) < 128) → IsPart bytes at (at + (n + m))
part_after_two bytes at n m within cut first later next =
    part_after bytes at (n + m) within cut (line_drop (drop at bytes) n m (n + m) refl first (subst (λ (xs : List ℕ). IsInLine xs m) (sym (drop-drop n at bytes)) later)) next
