use Rattle.std.proofs.Common.{◌≡◌, ◌++◌, Bool, None, OnOk, string_bytes, subst, sym}
use Rattle.markdown_json.specs.Fields.{children, field, key, kind}
use Rattle.markdown_json.specs.Json.{opening}
use Rattle.markdown_nodes.specs.Tree.{list_item}
use Rattle.markdown_json.proofs.kinds.push_plain_item.Goals as goal

pub returns-then-spread : goal.returns-then-spread
unfolding kind key field children
returns-then-spread c = subst (λ (b : Bool). OnOk c.push.result (string_bytes c.push.new.out ≡ string_bytes c.args.out.now ++ opening (list_item b None))) (sym c.if-spread.true) c.push.ensures

pub returns-else-spread : goal.returns-else-spread
unfolding kind key field children
returns-else-spread c = subst (λ (b : Bool). OnOk c.push-else-spread.result (string_bytes c.push-else-spread.new.out ≡ string_bytes c.args.out.now ++ opening (list_item b None))) (sym c.if-spread.false) c.push-else-spread.ensures
