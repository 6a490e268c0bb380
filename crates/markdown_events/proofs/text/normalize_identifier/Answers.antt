use Rattle.std.proofs.Common.{◌≡◌, ℕ, List, string_bytes, encode_utf8_all, chars, ◌∙◌, ap, subst, IfOk}
use Rattle.caseless.specs.Caseless.{default_case_fold}
use Rattle.markdown_events.specs.Texts.{fold}
use Rattle.markdown_events.proofs.Collapsing.{collapsed_chars}
use Rattle.markdown_events.proofs.text.normalize_identifier.Goals as goal

pub returns : goal.returns
unfolding fold
returns c =
    let value = c.args.value.now in
    let e = ap (λ bs. encode_utf8_all (default_case_fold (chars bs))) c.in_ok-text.ensures ∙ ap (λ cs. encode_utf8_all (default_case_fold cs)) (collapsed_chars value c.utf8.value) in
    subst (λ (w : List ℕ). IfOk c.folded.result (λ text. string_bytes text ≡ w)) e c.folded.ensures
