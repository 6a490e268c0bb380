-- Data that waits, and the white space at its ends.
use Rattle.std.proofs.Common.{Bool, List, Some, ap, arith, inl, inr, length, refl, slice_range, ◌<◌, subst, sym, ℕ, ◌+◌, ◌-◌, ◌≡◌, ◌≤◌}
use Rattle.commonmark_syntax.specs.Cuts.{IsCut}
use Rattle.event_writer.specs.Stages.{inlines}
use Rattle.markdown_events.specs.declared.event.Name.{Name}
use Rattle.markdown_text.proofs.Parts.{cut_in, length_in, range_of}
use Rattle.markdown_text.proofs.Ranges.{part_of}
use Rattle.markdown_text.specs.Addresses.{IsAddress, IsAddressName}
use Rattle.markdown_text.specs.Contents.{IsPart}
use Rattle.markdown_text.specs.Outputs.{after_plain}
use Rattle.markdown_text.specs.declared.gfm_autolink_literal_email.Address.{Address}

-- a cut of the data is one of its content
pub cut_left : (bytes text : List ℕ) (at end i a : ℕ) → IsPart bytes at end → text ≡ slice_range bytes at end → i ≤ length text → a ≡ at + i → IsCut text i → IsCut bytes a
cut_left bytes text at end i a part is within here cut = cut_in bytes text at end i a is (range_of bytes at end part) here within cut

-- a part of the data, in a content with the same bytes
pub part_left : (bytes now : List ℕ) (at end a b : ℕ) → IsPart bytes at end → now ≡ bytes → at ≤ a → a ≤ b → b ≤ end → IsCut bytes a → IsCut bytes b → IsPart now a b
part_left bytes now at end a b part same p q r first last = subst (λ (bs : List ℕ). IsPart bs a b) (sym same) (part_of bytes at end a b part p q r first last)

-- ---- Data of which the white space at its ends is known

-- three offsets within data: after the white space at its start, before that at its end, and before a hard break
pub record IsTrimmed (bytes : List ℕ) (at end first last stop : ℕ) : Type 0 where
  pub start : IsPart bytes at first
  pub middle : IsPart bytes first last
  pub space : IsPart bytes last stop
  pub rest : IsPart bytes stop end

pub trimmed : (bytes text : List ℕ) (at end leading trailing break : ℕ) → IsPart bytes at end → text ≡ slice_range bytes at end → leading + trailing ≤ length text → break ≤ trailing → IsCut text leading → IsCut text (length text - trailing) → IsCut text (length text - break)
    → IsTrimmed bytes at end (at + leading) (end - trailing) (end - break)
trimmed bytes text at end leading trailing break part is within less a b c =
    let size = length_in bytes text at end is (range_of bytes at end part) in
    let order = part.order in
    let first = cut_left bytes text at end leading (at + leading) part is (omega (arith, within)) refl a in
    let last = cut_left bytes text at end (length text - trailing) (end - trailing) part is (omega arith) (omega (arith, size, within, order)) b in
    let stop = cut_left bytes text at end (length text - break) (end - break) part is (omega arith) (omega (arith, size, within, less, order)) c in
    record {
      start = part_of bytes at end at (at + leading) part (omega arith) (omega arith) (omega (arith, size, within, order)) part.start first;
      middle = part_of bytes at end (at + leading) (end - trailing) part (omega arith) (omega (arith, size, within, order)) (omega arith) first last;
      space = part_of bytes at end (end - trailing) (end - break) part (omega (arith, size, within, order)) (omega (arith, less)) (omega arith) last stop;
      rest = part_of bytes at end (end - break) end part (omega (arith, size, within, less, order)) (omega arith) (omega arith) stop part.end;
    }

-- a part, by offsets and bytes that are the same
pub part_same : (bytes now : List ℕ) (a b a' b' : ℕ) → now ≡ bytes → a' ≡ a → b' ≡ b → IsPart bytes a b → IsPart now a' b'
part_same bytes now a b a' b' same first last part = subst (λ (bs : List ℕ). IsPart bs a' b') (sym same) (subst (λ (n : ℕ). IsPart bytes n b') (sym first) (subst (λ (n : ℕ). IsPart bytes a n) (sym last) part))

-- ---- Addresses in data

-- the parts of data before an address, of it, and after it
pub record IsAround (bytes : List ℕ) (at end first last : ℕ) : Type 0 where
  pub before : IsPart bytes at first
  pub address : IsPart bytes first last
  pub after : IsPart bytes last end
  pub filled : first < last

pub around : (bytes text : List ℕ) (at end : ℕ) (a : Address) → IsPart bytes at end → text ≡ slice_range bytes at end → IsAddress text a → IsAround bytes at end (at + a.start) (at + a.end)
around bytes text at end a part is address =
    let size = length_in bytes text at end is (range_of bytes at end part) in
    let order = part.order in
    let some = address.order in
    let within = address.within in
    let first = cut_left bytes text at end a.start (at + a.start) part is (omega (arith, some, within)) refl address.first in
    let last = cut_left bytes text at end a.end (at + a.end) part is within refl address.last in
    record {
      before = part_of bytes at end at (at + a.start) part (omega arith) (omega arith) (omega (arith, size, within, some, order)) part.start first;
      address = part_of bytes at end (at + a.start) (at + a.end) part (omega arith) (omega (arith, some)) (omega (arith, size, within, order)) first last;
      after = part_of bytes at end (at + a.end) end part (omega arith) (omega (arith, size, within, order)) (omega arith) last part.end;
      filled = omega (arith, some);
    }

-- the name of an address is that of inlines
pub address_plain : (name : Name) (h : Bool) → IsAddressName name → after_plain (inlines h) name ≡ Some (inlines h)
address_plain name h (inl is) = ap (after_plain (inlines h)) is
address_plain name h (inr (inl is)) = ap (after_plain (inlines h)) is
address_plain name h (inr (inr is)) = ap (after_plain (inlines h)) is
