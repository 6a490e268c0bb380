use Rattle.std.proofs.Common.{◌≡◌, List, ℕ, OnOk, subst, string_bytes}
use Rattle.markdown_json.specs.Fields.{field, key, kind}
use Rattle.markdown_json.specs.Strings.{string}
use Rattle.markdown_json.proofs.NodeTexts.{three}
use Rattle.markdown_json.proofs.kinds.push_image_reference.Goals as goal

pub returns : goal.returns
unfolding kind key field string
returns c = subst (λ (text : List ℕ). OnOk c.push_started.result (string_bytes c.push_started.new.out ≡ text)) (three _ _ _ _ _ _ c.in_ok-push.ensures c.in_ok-push_reference.ensures) c.push_started.ensures
