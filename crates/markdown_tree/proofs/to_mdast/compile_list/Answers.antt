use Rattle.std.proofs.Common.{Global, List, Some, Vec, arith, ap, length, sym, ◌∙◌}
use Rattle.markdown_events.specs.declared.event.Event.{Event}
use Rattle.markdown_events.specs.declared.unist.Position.{Position}
use Rattle.markdown_steps.specs.Compiler.{point_of}
use Rattle.markdown_steps.specs.Extents.{extent_of, last_event}
use Rattle.markdown_grammar.specs.Document.{source_of}
use Rattle.markdown_nodes.specs.View.{views}
use Rattle.markdown_nodes.specs.declared.mdast.Node.{Node}
use Rattle.markdown_tree.specs.States.{state_of}
use Rattle.markdown_tree.proofs.Answered.{left_fails, no_leaf_open, root_nodes, some_event, tree_gives}
use Rattle.markdown_tree.proofs.to_mdast.compile_list.Goals as goal

pub unfinished-violated-requires : goal.unfinished-violated-requires
unfinished-violated-requires g c none =
    let ran = (rw c.in-Ok.is at c.take_all-context.ensures.gives) in
    no_leaf_open (source_of c.args.document.now (g.R.References.text c.args.references.now)) c.args.steps.now.events c.take_all-context.result.context ran none

pub last_point-requires-clause-some : goal.last_point-requires-clause-some
last_point-requires-clause-some g c =
    let ran = (rw c.in-Ok.is at c.take_all-context.ensures.gives) in
    let some = some_event (source_of c.args.document.now (g.R.References.text c.args.references.now)) c.args.steps.now.events (state_of c.take_all-context.result.context) c.in-Some.error_kind ran (sym c.unfinished-violated.ensures ∙ c.in-Some.is) in
    let count = (rw c.in-Ok.is at c.take_all-context.ensures.length) in
    omega (arith, some, count)

pub returns-in-Some-clause-gives : goal.returns-in-Some-clause-gives
returns-in-Some-clause-gives g c =
    let ran = (rw c.in-Ok.is at c.take_all-context.ensures.gives) in
    left_fails c.at.result (source_of c.args.document.now (g.R.References.text c.args.references.now)) c.args.steps.now.events (state_of c.take_all-context.result.context) c.in-Some.error_kind c.last_point.result
    ran (sym c.unfinished-violated.ensures ∙ c.in-Some.is)
    (c.last_point.ensures.point ∙ ap (λ (es : List Event). point_of (last_event es)) c.take_all-context.ensures.list) c.at.ensures

pub returns-in-Some-clause-empty : goal.returns-in-Some-clause-empty
returns-in-Some-clause-empty g c none =
    let ran = (rw c.in-Ok.is at c.take_all-context.ensures.gives) in
    let some = some_event (source_of c.args.document.now (g.R.References.text c.args.references.now)) c.args.steps.now.events (state_of c.take_all-context.result.context) c.in-Some.error_kind ran (sym c.unfinished-violated.ensures ∙ c.in-Some.is) in
    let gone = ap (λ (es : List Event). length es) none in
    let z : ⊥ = omega (arith, some, gone) in
    absurd z

pub returns-in-Some-clause-bound : goal.returns-in-Some-clause-bound
returns-in-Some-clause-bound g c =
    let ran = (rw c.in-Ok.is at c.take_all-context.ensures.gives) in
    let some = some_event (source_of c.args.document.now (g.R.References.text c.args.references.now)) c.args.steps.now.events (state_of c.take_all-context.result.context) c.in-Some.error_kind ran (sym c.unfinished-violated.ensures ∙ c.in-Some.is) in
    let taken = c.take_all-context.ensures.bound in
    let last = c.last_point.ensures.count in
    omega (arith, some, taken, last)

pub returns-clause-gives : goal.returns-clause-gives
returns-clause-gives g c =
    let ran = (rw c.in-Ok.is at c.take_all-context.ensures.gives) in
    let none = sym c.unfinished-violated.ensures ∙ c.in_default.is in
    tree_gives (source_of c.args.document.now (g.R.References.text c.args.references.now)) c.args.steps.now.events (state_of c.take_all-context.result.context)
    (record { children = c.into_nodes-children.result; position = Some c.root_position.result }) ran none
    (ap (λ (v : Vec Node Global). views v.items) c.into_nodes-children.ensures ∙ root_nodes (source_of c.args.document.now (g.R.References.text c.args.references.now)) c.args.steps.now.events c.take_all-context.result.context ran none)
    (ap (λ (p : Position). Some p) (c.root_position.ensures.position ∙ ap extent_of c.take_all-context.ensures.list))

pub returns-in-Err-clause-bound : goal.returns-in-Err-clause-bound
returns-in-Err-clause-bound g c =
    let taken = c.take_all-context.ensures.bound in
    omega (arith, taken)

pub returns-clause-bound : goal.returns-clause-bound
returns-clause-bound g c =
    let taken = c.take_all-context.ensures.bound in
    let length = (rw c.in-Ok.is at c.take_all-context.ensures.length) in
    let ends = c.root_position.ensures.count in
    omega (arith, taken, length, ends)
