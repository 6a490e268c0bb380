use Rattle.std.proofs.Common.{◌≡◌, List, ℕ, OnOk, subst, string_bytes}
use Rattle.markdown_json.specs.Fields.{children, field, key, kind}
use Rattle.markdown_json.proofs.NodeTexts.{four}
use Rattle.markdown_json.proofs.kinds.push_ordered_list.Goals as goal

pub returns : goal.returns
unfolding kind key field children
returns c = subst (λ (text : List ℕ). OnOk c.push_children.result (string_bytes c.push_children.new.out ≡ text)) (four _ _ _ _ _ _ _ _ c.in_ok-push_flag.ensures c.in_ok-push_start.ensures c.in_ok-push_flag-2.ensures) c.push_children.ensures
