use Rattle.std.proofs.Common.{List, [], ◌∷◌, ◌++◌, ap, refl, sym, ◌∙◌, ◌<◌}
use Rattle.std.specs.Vec.{vec_len}
use Rattle.markdown_nodes.specs.declared.mdast.Node.{Node}
use Rattle.markdown_nodes.specs.Tree.{Tree, join, only}
use Rattle.markdown_nodes.specs.View.{view, views}
use Rattle.markdown_nodes.proofs.Views.{view-Text}
use Rattle.markdown_parts.proofs.Joins.{first_begun, text_begun, text_grown}
use Rattle.markdown_parts.proofs.Views.{no_text, views_put}
use Rattle.markdown_steps.specs.TextNodes.{text_node}
use denote.Hole.Carrier
use Rattle.markdown_nodes.specs.declared.mdast.Node.TheViews.{out-Node}
use Rattle.markdown_parts.proofs.joining.put_any.Goals.{in-Text+in-Some+in_default-last, in-Text+in_default-last_mut, in_default}
use Rattle.markdown_parts.proofs.joining.put_any.Goals as goal

pub returns-in-Text-last : goal.returns-in-Text-last
unfolding out-Node denote.Hole.Carrier.out
returns-in-Text-last c =
    let v = c.args.nodes.now in
    let some : 0 < vec_len v = c.in-Some.ensures.variant.0 refl in
    (rw c.in-Text-last.is (text_grown v.items (vec_len v) c.in-Some.last.now c.in-Text-last.before _ c.join_text.new.text (text_node c.in-Text.text) v.ok.0 some c.in-Some.ensures.value c.in-Text-last.is c.in-Text-last.before-is c.in_ok-join_text.ensures))
    ∙ ap (λ (x : Tree). join (views v.items) (only x)) (sym (ap view c.in-Text.is ∙ view-Text c.in-Text.text))

pub returns : goal.returns
returns c =
    let v = c.args.nodes.now in
    elim c.match-node.branch [
      | in-Text+in-Some+in_default-last w ↦
          let some : 0 < vec_len v = w.in-Some.ensures.variant.0 refl in
          text_begun v.items c.first_place.new.nodes.items c.push.new.self.items (vec_len v) w.in-Some.last.now c.args.node (only (view c.args.node)) v.ok.0 some w.in-Some.ensures.value
          (c.first_place.ensures ∙ ap (λ x. x.items) w.nodes-is) c.in_ok-push.ensures.items (no_text w.in-Some.last.now w.in_default-last.not-Text) refl
      | in-Text+in_default-last_mut w ↦
          first_begun v.items c.first_place.new.nodes.items c.push.new.self.items (vec_len v) c.args.node (only (view c.args.node)) v.ok.0 w.in_default-last_mut.ensures.variant.1 (c.first_place.ensures ∙ ap (λ x. x.items) w.nodes-is) c.in_ok-push.ensures.items refl
      | in_default w ↦
          ap views (c.in_ok-push.ensures.items ∙ ap (λ (xs : List Node). xs ++ c.args.node ∷ []) (c.first_place.ensures ∙ ap (λ x. x.items) w.nodes-is))
          ∙ views_put v.items c.args.node (no_text c.args.node w.in_default.not-Text)
    ]
