use Rattle.std.proofs.Common.{◌≡◌, ◌++◌, List, Option, Some, ℕ, OnOk, ap, rules, sym, codes, subst, string_bytes, ◌∙◌}
use Rattle.markdown_events.specs.declared.unist.Point.{Point}
use Rattle.markdown_events.specs.declared.unist.Position.{Position}
use Rattle.markdown_json.specs.Counting.{counted_as}
use Rattle.markdown_json.specs.Fields.{field, point, position_between, position_end}
use Rattle.markdown_json.specs.Json.{children_end, closing}
use Rattle.markdown_json.proofs.NodeTexts.{two}
use Rattle.markdown_json.proofs.PointTexts.{position-is}
use Rattle.markdown_nodes.specs.Access.{label_of, position_of}
use Rattle.markdown_json.proofs.kinds.push_closing.Goals as goal

pub returns-in_ok-push_position_keys-in-Some : goal.returns-in_ok-push_position_keys-in-Some
returns-in_ok-push_position_keys-in-Some c =
    let old = string_bytes c.args.out.now in
    let before = children_end (label_of c.args.node.now) in
    let start = c.counted-start.result in
    let end = c.counted-end.result in
    let counted = counted_as c.args.points.now in
    let known : position_of c.args.node.now ≡ Some c.in-Some.position.now = search rules in
    let all = two old (before ++ codes ",\"position\":{\"start\":") (point start ++ position_end end) _ c.in_ok-push_position_keys-in-Some.ensures ∙ ap (λ (text : List ℕ). old ++ text) (position-is start end before)
    ∙ ap (λ (s : Point). old ++ ((before ++ field (codes "position") (position_between s end)) ++ codes "}")) c.counted-start.ensures
    ∙ ap (λ (e : Point). old ++ ((before ++ field (codes "position") (position_between (counted c.in-Some.position.now.start) e)) ++ codes "}")) c.counted-end.ensures
    ∙ ap (λ (p : Option Position). old ++ closing counted (label_of c.args.node.now) p) (sym known) in
    subst (λ (text : List ℕ). OnOk c.push.result (string_bytes c.push.new.out ≡ text)) all c.push.ensures
