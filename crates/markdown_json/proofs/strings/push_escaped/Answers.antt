use Rattle.std.proofs.Common.{◌≡◌, ◌∷◌, ◌++◌, ◌<◌, ℕ, List, [], OnOk, sym, subst, slice_index, string_bytes}
use Rattle.markdown_json.specs.Strings.{escape}
use Rattle.markdown_json.proofs.Fragments.{all_stand}
use Rattle.markdown_json.proofs.strings.push_escaped.Goals as goal

pub returns-then-plain_size-text : goal.returns-then-plain_size-text
returns-then-plain_size-text c =
    let text = c.args.text.now in
    let plain : (k : ℕ) → k < c.plain_size.result → escape (slice_index text k) ≡ slice_index text k ∷ [] = subst (λ (t : List ℕ). (k : ℕ) → k < c.plain_size.result → escape (slice_index t k) ≡ slice_index t k ∷ []) c.as_bytes.ensures.value c.plain_size.ensures.plain in
    subst (λ (t : List ℕ). OnOk c.push.result (string_bytes c.push.new.out ≡ string_bytes c.args.out.now ++ t)) (sym (all_stand text c.plain_size.result c.if-plain_size-text.true plain)) c.push.ensures
