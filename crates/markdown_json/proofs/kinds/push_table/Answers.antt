use Rattle.std.proofs.Common.{◌≡◌, ◌++◌, List, ℕ, OnOk, ap, subst, string_bytes, ◌∙◌}
use Rattle.markdown_events.specs.declared.infer.AlignKind.{AlignKind}
use Rattle.markdown_json.specs.Fields.{align_field, kind}
use Rattle.markdown_json.proofs.NodeTexts.{three}
use Rattle.markdown_json.proofs.kinds.push_table.Goals as goal

pub returns : goal.returns
unfolding kind
returns c =
    let align = c.in_ok-push_align.ensures ∙ ap (λ (kinds : List AlignKind). string_bytes c.push.new.out ++ align_field kinds) c.deref.ensures.value in
    subst (λ (text : List ℕ). OnOk c.push_children.result (string_bytes c.push_children.new.out ≡ text)) (three _ _ _ _ _ _ c.in_ok-push.ensures align) c.push_children.ensures
