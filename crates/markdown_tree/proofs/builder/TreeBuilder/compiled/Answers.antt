use Rattle.std.proofs.Common.{Global, Ok, Some, Vec, ap, is_some, subst, sym, ◌∙◌, ◌≡◌}
use Rattle.markdown_events.specs.declared.unist.Position.{Position}
use Rattle.markdown_grammar.specs.Document.{source_of}
use Rattle.markdown_nodes.specs.Kinds.{Root}
use Rattle.markdown_nodes.specs.View.{view, views}
use Rattle.markdown_nodes.specs.declared.mdast.Node.{Node}
use Rattle.markdown_nodes.specs.declared.mdast.Node.TheVariants as nodes
use Rattle.markdown_steps.specs.Compiler.{compiled}
use Rattle.markdown_tree.specs.Building.{Building}
use Rattle.markdown_tree.specs.States.{Fails, state_of}
use Rattle.markdown_tree.proofs.Answered.{left_fails, no_leaf_open, root_nodes, tree_gives}
use Rattle.markdown_tree.proofs.Building.{built-state}
use Rattle.markdown_tree.proofs.builder.TreeBuilder.compiled.Goals as goal

pub unfinished-violated-requires : goal.unfinished-violated-requires
unfinished-violated-requires g c none =
    let s = source_of c.self.inside.document (g.R.References.text c.self.inside.references.now) in
    let ran = built-state s c.self.inside.passed c.self.inside.context c.self.inside.fault (ap is_some c.in_default.is) c.self.invariant in
    no_leaf_open s c.self.inside.passed c.self.inside.context ran none

pub returns-in-Some-violated-clause-gives : goal.returns-in-Some-violated-clause-gives
returns-in-Some-violated-clause-gives g c =
    let s = source_of c.self.inside.document (g.R.References.text c.self.inside.references.now) in
    let ran = built-state s c.self.inside.passed c.self.inside.context c.self.inside.fault (ap is_some c.in_default.is) c.self.invariant in
    subst (λ (b : Building _). Fails c.at.result (compiled (source_of b.document (g.R.References.text b.references)) b.events)) c.self.view_is
    (left_fails c.at.result s c.self.inside.passed (state_of c.self.inside.context) c.in-Some-violated.error_kind c.end.result ran (sym c.unfinished-violated.ensures ∙ c.in-Some-violated.is) c.end.ensures c.at.ensures)

pub returns-clause-gives : goal.returns-clause-gives
returns-clause-gives g c =
    let s = source_of c.self.inside.document (g.R.References.text c.self.inside.references.now) in
    let ran = built-state s c.self.inside.passed c.self.inside.context c.self.inside.fault (ap is_some c.in_default.is) c.self.invariant in
    let none = sym c.unfinished-violated.ensures ∙ c.in_default-violated.is in
    let root : Root = record { children = c.into_nodes-children.result; position = Some c.extent.result } in
    subst (λ (b : Building _). compiled (source_of b.document (g.R.References.text b.references)) b.events ≡ Ok (view (nodes.Root root))) c.self.view_is
    (tree_gives s c.self.inside.passed (state_of c.self.inside.context) root ran none
    (ap (λ (v : Vec Node Global). views v.items) c.into_nodes-children.ensures ∙ root_nodes s c.self.inside.passed c.self.inside.context ran none)
    (ap (λ (p : Position). Some p) c.extent.ensures.position))
