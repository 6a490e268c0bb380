use Rattle.std.proofs.Common.{ap, refl, ◌<◌, ◌∙◌}
use Rattle.std.specs.Vec.{vec_len}
use Rattle.markdown_parts.proofs.Joins.{first_begun, text_begun, text_grown}
use Rattle.markdown_parts.proofs.Views.{no_text}
use Rattle.markdown_steps.specs.TextNodes.{one_text}
use denote.Hole.Carrier
use Rattle.markdown_nodes.specs.declared.mdast.Node.TheViews.{out-Node}
use Rattle.markdown_parts.proofs.joining.put_text.Goals.{in-Some+in_default-last, in_default}
use Rattle.markdown_parts.proofs.joining.put_text.Goals as goal

pub returns-in-Text : goal.returns-in-Text
unfolding out-Node denote.Hole.Carrier.out
returns-in-Text c =
    let v = c.args.nodes.now in
    let some : 0 < vec_len v = c.in-Some.ensures.variant.0 refl in
    rw c.in-Text.is (text_grown v.items (vec_len v) c.in-Some.last.now c.in-Text.text _ c.extend_text.new.text (one_text c.args.value.now c.args.position) v.ok.0 some c.in-Some.ensures.value c.in-Text.is c.in-Text.text-is c.in_ok-extend_text.ensures)

pub returns : goal.returns
returns c =
    let v = c.args.nodes.now in
    elim c.match-last_mut.branch [
      | in-Some+in_default-last w ↦
          let some : 0 < vec_len v = w.in-Some.ensures.variant.0 refl in
          text_begun v.items c.one_place.new.nodes.items c.push.new.self.items (vec_len v) w.in-Some.last.now c.in_ok-new_text.field-0 (one_text c.args.value.now c.args.position) v.ok.0 some w.in-Some.ensures.value
          (c.one_place.ensures ∙ ap (λ x. x.items) w.nodes-is) c.in_ok-push.ensures.items (no_text w.in-Some.last.now w.in_default-last.not-Text) c.in_ok-new_text.ensures
      | in_default w ↦
          first_begun v.items c.one_place.new.nodes.items c.push.new.self.items (vec_len v) c.in_ok-new_text.field-0 (one_text c.args.value.now c.args.position) v.ok.0 w.in_default.ensures.variant.1 (c.one_place.ensures ∙ ap (λ x. x.items) w.nodes-is) c.in_ok-push.ensures.items c.in_ok-new_text.ensures
    ]
