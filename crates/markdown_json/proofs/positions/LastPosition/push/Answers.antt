use Rattle.std.proofs.Common.{◌≡◌, ◌++◌, List, ℕ, OnOk, ap, subst, ◌∙◌, string_bytes}
use Rattle.markdown_events.specs.declared.unist.Point.{Point}
use Rattle.markdown_json.specs.Fields.{point, position_end}
use Rattle.markdown_json.proofs.NodeTexts.{two}
use Rattle.markdown_json.proofs.positions.LastPosition.push.Goals as goal

pub returns : goal.returns
returns c =
    let end = ap (λ (p : Point). string_bytes c.push_start.new.out ++ position_end p) c.set.ensures in
    subst (λ (text : List ℕ). OnOk c.push_end.result (string_bytes c.push_end.new.out ≡ text))
    (end ∙ two (string_bytes c.args.out.now) (point c.args.start) (position_end c.args.end) _ c.in_ok-push_start.ensures) c.push_end.ensures
