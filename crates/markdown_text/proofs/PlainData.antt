-- The data that plain bytes are.
use Rattle.std.proofs.Common.{◌≡◌, ◌≢◌, ◌≤◌, ◌<◌, ◌+◌, ◌-◌, ◌∙◌, Bool, List, ap, arith, drop, false, inl, inr, length, length-drop, slice_index, subst, sym, ℕ}
use Rattle.std.proofs.lemmas.Bool.{both_ways}
use Rattle.std.proofs.lemmas.List.{get_or-drop}
use Rattle.std.proofs.Math.Nat.{eq-or-lt_of_le}
use Rattle.commonmark_syntax.specs.Cuts.{IsCut}
use Rattle.markdown_text.specs.Constructs.{IsMarker}
use Rattle.markdown_text.specs.Contents.{IsPart}
use Rattle.markdown_text.specs.Plain.{may_begin}
use Rattle.markdown_text.proofs.Parts.{cut_end, cut_start, cut_where}
use Rattle.markdown_text.proofs.PlainBytes.{byte_of}

-- a plain byte is no line feed
no_feed : (literals : Bool) (before byte : ℕ) → may_begin literals before byte ≡ false → byte ≢ 10
no_feed literals before byte plain feed = both_ways _ plain (ap (may_begin literals before) feed)

-- nor is it a marker of a delimiter run
no_marker : (literals : Bool) (before byte : ℕ) → may_begin literals before byte ≡ false → IsMarker byte → ⊥
no_marker literals before byte plain marker =
    elim marker [
      | inl star ↦ both_ways _ plain (ap (may_begin literals before) star)
      | inr (inl underscore) ↦ both_ways _ plain (ap (may_begin literals before) underscore)
      | inr (inr tilde) ↦ both_ways _ plain (ap (may_begin literals before) tilde)
    ]

-- a text of plain bytes is one part, and has no markers
module _ (bytes : List ℕ) (literals : Bool) (plain : (k : ℕ) → k < length bytes → (before : ℕ) × (may_begin literals before (slice_index bytes k) ≡ false)) where
  pub all_plain : IsPart bytes 0 (length bytes)
  all_plain = record {
    order = omega arith;
    within = omega arith;
    line = λ k from less. let byte = plain k less in no_feed literals byte.0 (slice_index bytes k) byte.1;
    start = cut_start bytes;
    end = cut_end bytes;
  }

  pub none_marks : (k : ℕ) → k < length bytes → IsMarker (slice_index bytes k) → ⊥
  none_marks k less = let byte = plain k less in no_marker literals byte.0 (slice_index bytes k) byte.1

module _ (bytes rest : List ℕ) (literals : Bool) (at count : ℕ) (is : rest ≡ drop at bytes)
    (plain : (k : ℕ) → k < count → may_begin literals (slice_index rest k) (slice_index rest (k + 1)) ≡ false) where
  -- the bytes after the first are no markers
  pub no_markers : (i : ℕ) → i < count → IsMarker (slice_index (drop (at + 1) bytes) i) → ⊥
  no_markers i less marker =
      let place : at + (i + 1) ≡ at + 1 + i = omega arith in
      no_marker literals (slice_index rest i) (slice_index rest (i + 1)) (plain i less) (subst IsMarker (get_or-drop (at + 1) bytes i 0 ∙ sym (byte_of bytes rest at (i + 1) is ∙ ap (slice_index bytes) place)) marker)

  module _ (cut : IsCut bytes at) (first : slice_index bytes at ≢ 10) (within : count < length rest)
      (next : count + 1 < length rest → slice_index rest (count + 1) < 128) where
    room : length rest ≡ length bytes - at
    room = ap (λ (x : List ℕ). length x) is ∙ length-drop at bytes

    line_of : (k : ℕ) → at ≤ k → k < at + (1 + count) → slice_index bytes k ≢ 10
    line_of k from to feed =
        elim (eq-or-lt_of_le from) [
          | inl same ↦ first (ap (slice_index bytes) same ∙ feed)
          | inr more ↦
              let i = k - (at + 1) in
              let place : at + (i + 1) ≡ k = omega (arith, more) in
              no_feed literals (slice_index rest i) (slice_index rest (i + 1)) (plain i (omega (arith, more, to))) (byte_of bytes rest at (i + 1) is ∙ ap (slice_index bytes) place ∙ feed)
        ]

    after : at + (1 + count) < length bytes → slice_index bytes (at + (1 + count)) < 128
    after less =
        let place : at + (count + 1) ≡ at + (1 + count) = omega arith in
        subst (λ c. c < 128) (byte_of bytes rest at (count + 1) is ∙ ap (slice_index bytes) place) (next (omega (arith, less, room)))

    -- the first byte and the plain bytes after it are a part of one line
    pub plain_part : IsPart bytes at (at + (1 + count))
    plain_part = record {
      order = omega arith;
      within = omega (arith, within, room);
      line = line_of;
      start = cut;
      end = cut_where bytes (at + (1 + count)) (omega (arith, within, room)) after;
    }
