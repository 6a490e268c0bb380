use Rattle.std.proofs.Common.{◌≡◌, List, ℕ, OnOk, subst, string_bytes}
use Rattle.markdown_json.specs.Fields.{children, field, key, kind}
use Rattle.markdown_json.proofs.NodeTexts.{three}
use Rattle.markdown_json.proofs.kinds.push_task_item.Goals as goal

pub returns : goal.returns
unfolding kind key field children
returns c = subst (λ (text : List ℕ). OnOk c.push_children.result (string_bytes c.push_children.new.out ≡ text)) (three _ _ _ _ _ _ c.in_ok-push_flag.ensures c.in_ok-push_checked.ensures) c.push_children.ensures
