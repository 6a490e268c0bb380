use Rattle.std.proofs.Common.{◌≡◌, ◌∷◌, ◌++◌, ◌<◌, ◌≤◌, ℕ, List, [], drop, sym, ap, subst, ◌∙◌, length, slice_index, string_bytes}
use Rattle.std.specs.Str.{IsUtf8}
use Rattle.std.proofs.lemmas.Str.{IsCharBoundary-after_ascii}
use Rattle.markdown_json.specs.Strings.{escape, escaped}
use Rattle.markdown_json.proofs.Fragments.{at_end, begins, ends, first_is_ascii, goes_on, some}
use Rattle.markdown_json.proofs.strings.push_fragments.Goals as goal

pub returns-in_default : goal.returns-in_default
returns-in_default c =
    let rest = c.fragments.rest.now in
    let n = c.plain_size.result in
    let within : n ≤ length rest = subst (λ (t : List ℕ). n ≤ length t) c.as_bytes.ensures.value c.plain_size.ensures.within in
    let plain : (k : ℕ) → k < n → escape (slice_index rest k) ≡ slice_index rest k ∷ [] = subst (λ (t : List ℕ). (k : ℕ) → k < n → escape (slice_index t k) ≡ slice_index t k ∷ []) c.as_bytes.ensures.value c.plain_size.ensures.plain in
    let none : drop n rest ≡ [] = sym (c.as_bytes-in-fragments.ensures.value ∙ c.split_at.ensures.back) ∙ at_end c.as_bytes-in-fragments.result.now (sym c.in_default.ensures.value) in
    ends _ (string_bytes c.fragments.out) _ rest n within plain none (c.in_ok-push_str.ensures.bytes ∙ ap (λ (t : List ℕ). string_bytes c.fragments.out ++ t) c.split_at.ensures.front) c.fragments.invariant.0

pub range_from-rest-requires : goal.range_from-rest-requires
range_from-rest-requires c = λ low.
    let rest = c.fragments.rest.now in
    let n = c.plain_size.result in
    let after = c.split_at.result.1.now in
    let bytes : c.as_bytes-in-fragments.result.now ≡ after = c.as_bytes-in-fragments.ensures.value in
    let utf8 : IsUtf8 after = subst IsUtf8 bytes c.as_bytes-in-fragments.ensures.utf8 in
    let first : after ≡ c.in-Some.byte.now ∷ drop 1 after = subst (λ (t : List ℕ). t ≡ c.in-Some.byte.now ∷ drop 1 t) bytes (begins _ c.in-Some.byte.now (sym c.in-Some.ensures.value)) in
    let ascii : n < length rest → slice_index rest n < 128 = subst (λ (t : List ℕ). n < length t → slice_index t n < 128) c.as_bytes.ensures.value c.plain_size.ensures.ascii in
    IsCharBoundary-after_ascii after 0 utf8 (some after c.in-Some.byte.now first) (first_is_ascii rest after n c.in-Some.byte.now c.split_at.ensures.back first ascii)

pub fragments-preserved : goal.fragments-preserved
fragments-preserved c =
    let rest = c.fragments.rest.now in
    let n = c.plain_size.result in
    let after = c.split_at.result.1.now in
    let within : n ≤ length rest = subst (λ (t : List ℕ). n ≤ length t) c.as_bytes.ensures.value c.plain_size.ensures.within in
    let plain : (k : ℕ) → k < n → escape (slice_index rest k) ≡ slice_index rest k ∷ [] = subst (λ (t : List ℕ). (k : ℕ) → k < n → escape (slice_index t k) ≡ slice_index t k ∷ []) c.as_bytes.ensures.value c.plain_size.ensures.plain in
    let first : after ≡ c.in-Some.byte.now ∷ drop 1 after = subst (λ (t : List ℕ). t ≡ c.in-Some.byte.now ∷ drop 1 t) c.as_bytes-in-fragments.ensures.value (begins _ c.in-Some.byte.now (sym c.in-Some.ensures.value)) in (
      ap (λ (later : List ℕ). string_bytes c.push_escape.new.out ++ escaped later) c.range_from-rest.ensures.value
          ∙ goes_on _ (string_bytes c.fragments.out) _ _ rest (drop 1 after) n c.in-Some.byte.now within plain (sym c.split_at.ensures.back ∙ first) (c.in_ok-push_str.ensures.bytes ∙ ap (λ (t : List ℕ). string_bytes c.fragments.out ++ t) c.split_at.ensures.front) c.in_ok-push_escape.ensures c.fragments.invariant.0,
      c.range_from-rest.utf8,
    )
