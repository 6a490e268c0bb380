use Rattle.std.proofs.Common.{◌≡◌, List, [], true≢false, length, refl, sym, ap, ◌∙◌}
use Rattle.std.proofs.lemmas.Bool.{eqb-true, eq-eqb}
use Rattle.std.proofs.lemmas.List.{nil_from_length}
use Rattle.markdown_nodes.specs.declared.mdast.Node.{Node}
use Rattle.markdown_nodes.specs.Access.{items_in, nodes_in}
use Rattle.markdown_nodes.specs.View.{views}
use Rattle.markdown_nodes.proofs.Comparing.{same_but_children-from_views, nodes-same, same_length, same_parts}
use Rattle.markdown_nodes.proofs.mdast.comparing.same_trees.Goals as goal

pub returns-then-not-same_but_children : goal.returns-then-not-same_but_children
returns-then-not-same_but_children c = (λ e. absurd (true≢false (sym e)), λ e. c.if-not-same_but_children.ensures.1 (same_but_children-from_views _ _ e))

pub returns-in-Some : goal.returns-in-Some
returns-in-Some c =
    let held : c.in-Some.children.now.items ≡ nodes_in c.args.a.now = ap items_in c.in-Some.ensures in
    let shown : c.as_slice.result.now ≡ c.in-Some.children.now.items = c.as_slice.ensures.value in (
      λ r. same_parts c.args.a.now c.args.b.now (c.if-not-same_but_children.ensures.0 refl).0 (c.if-not-same_but_children.ensures.0 refl).1 (ap views (sym held) ∙ ap views (sym shown) ∙ c.same_levels.ensures.0 r ∙ ap views c.child_nodes.ensures),
      λ e. c.same_levels.ensures.1 (ap views shown ∙ ap views held ∙ nodes-same c.args.a.now c.args.b.now e ∙ ap views (sym c.child_nodes.ensures)),
    )

pub returns-in-None : goal.returns-in-None
returns-in-None c =
    let none : nodes_in c.args.a.now ≡ [] = ap items_in (sym c.in-None.ensures) in (
      λ r. same_parts c.args.a.now c.args.b.now (c.if-not-same_but_children.ensures.0 refl).0 (c.if-not-same_but_children.ensures.0 refl).1 (ap views none ∙ ap views (sym (nil_from_length _ (eqb-true _ 0 (sym c.is_empty.ensures ∙ r)))) ∙ ap views c.child_nodes-in-None.ensures),
      λ e. c.is_empty.ensures ∙ eq-eqb _ 0 (ap (λ (l : List Node). length l) c.child_nodes-in-None.ensures ∙ sym (same_length (nodes_in c.args.a.now) (nodes_in c.args.b.now) (nodes-same c.args.a.now c.args.b.now e)) ∙ ap (λ (l : List Node). length l) none),
    )
