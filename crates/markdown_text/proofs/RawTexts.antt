-- The stages in a raw text, and its ends.
use Rattle.std.proofs.Common.{Bool, List, None, Option, Some, ap, arith, drop, false, length, length-drop, refl, subst, sym, ℕ, ◌+◌, ◌-◌, ◌∙◌, ◌<◌, ◌≡◌, ◌≢◌, ◌≤◌}
use Rattle.std.specs.Prelude.{IfSome, MatchOption, slice_index}
use Rattle.std.proofs.lemmas.List.{get_or-drop}
use Rattle.commonmark_syntax.specs.Strings.{FirstStringEnds, HasNoString}
use Rattle.event_writer.specs.Stages.{entered, exited, inlines}
use Rattle.markdown_events.specs.Names.{role_of}
use Rattle.markdown_events.specs.declared.event.Name.{Name}
use Rattle.markdown_events.specs.declared.event.Point.{Point}
use Rattle.markdown_text.proofs.Parts.{run_part}
use Rattle.markdown_text.specs.Contents.{IsAsciiPart, IsPart}
use Rattle.markdown_text.specs.Outputs.{after_plain}
use Rattle.markdown_text.specs.RawTexts.{raw_data_name, raw_text_name, raw_sequence_name}
use Rattle.markdown_text.specs.Standings.{HasFront}
use Rattle.markdown_text.specs.Tokens.{IsEnclosed}
use Rattle.markdown_text.specs.declared.raw_text.RawText.{RawText}
use Rattle.markdown_text.specs.declared.raw_text.RawText.TheVariants.{Code, Math}

-- its span may begin among inlines
pub raw_enters : (r : RawText) (h : Bool) → entered (inlines h) (role_of (raw_text_name r)) ≡ Some (inlines false)
raw_enters Code h = refl
raw_enters Math h = refl

-- it asks for no byte where it begins
pub raw_front : (r : RawText) (bytes : List ℕ) (p : Point) → HasFront bytes p (role_of (raw_text_name r))
raw_front Code bytes p = tt
raw_front Math bytes p = tt

-- a sequence may stand in it
pub sequence_put : (r : RawText) → after_plain (inlines false) (raw_sequence_name r) ≡ Some (inlines false)
sequence_put Code = refl
sequence_put Math = refl

-- what a line has may stand in it
pub data_put : (r : RawText) (name : Name) → name ≡ raw_data_name r → after_plain (inlines false) name ≡ Some (inlines false)
data_put Code name is = ap (after_plain (inlines false)) is
data_put Math name is = ap (after_plain (inlines false)) is

-- its span may end
pub raw_exits : (r : RawText) (h : Bool) → exited (inlines false) (inlines h) (role_of (raw_text_name r)) ≡ Some (inlines h)
raw_exits Code h = refl
raw_exits Math h = refl

-- a raw text, by the first string of as many markers as open it
raw_enclosed : (bytes : List ℕ) (at marker n size : ℕ) → marker < 128 → marker ≢ 10 → 0 < n → IsAsciiPart bytes at (at + n) → FirstStringEnds marker (drop (at + n) bytes) n size → IsEnclosed bytes n at (at + (n + size))
raw_enclosed bytes at marker n size low other some opening f =
    let closes : at + (n + size) - n ≡ at + size = omega arith in
    let sum : f.start + n ≡ size = f.size in
    let fits : f.start + n ≤ length (drop (at + n) bytes) = f.there.within in
    record {
      order = omega (arith, sum);
      opening = opening.part;
      closing = subst (λ (x : ℕ). IsPart bytes x (at + (n + size))) (sym closes) ((run_part bytes (at + size) (at + (n + size)) marker (omega (arith, some)) (omega (arith, length-drop (at + n) bytes, sum, fits, opening.part.within)) low other
          (λ k first less.
          (let place : f.start + (k - (at + size)) + (at + n) ≡ k = omega (arith, first, sum) in
          let there : slice_index (drop (at + n) bytes) (f.start + (k - (at + size))) ≡ marker = f.there.marks (k - (at + size)) (omega (arith, first, less)) in
          ap (slice_index bytes) (let e : k ≡ at + n + (f.start + (k - (at + size))) = omega (arith, place) in e) ∙ sym (get_or-drop (at + n) bytes (f.start + (k - (at + size))) 0) ∙ there))).part);
    }

pub raw_found : (bytes : List ℕ) (at marker n : ℕ) (found : Option ℕ) → marker < 128 → marker ≢ 10 → 0 < n → IsAsciiPart bytes at (at + n) → MatchOption found (HasNoString marker (drop (at + n) bytes) n) (λ size. (n ≤ size) × FirstStringEnds marker (drop (at + n) bytes) n (size - n))
    → IfSome found (λ size. IsEnclosed bytes n at (at + size))
raw_found bytes at marker n None low other some opening f = tt
raw_found bytes at marker n (Some size) low other some opening f =
    let whole : n + (size - n) ≡ size = omega (arith, f.0) in
    subst (λ x. IsEnclosed bytes n at (at + x)) whole (raw_enclosed bytes at marker n (size - n) low other some opening f.1)
