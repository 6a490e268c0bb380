use Rattle.std.proofs.Common.{◌≡◌, List, ℕ, OnOk, subst, string_bytes}
use Rattle.markdown_json.specs.Fields.{kind}
use Rattle.markdown_json.proofs.NodeTexts.{two}
use Rattle.markdown_json.proofs.kinds.push_footnote_reference.Goals as goal

pub returns : goal.returns
unfolding kind
returns c = subst (λ (text : List ℕ). OnOk c.push_association.result (string_bytes c.push_association.new.out ≡ text)) (two _ _ _ _ c.in_ok-push.ensures) c.push_association.ensures
