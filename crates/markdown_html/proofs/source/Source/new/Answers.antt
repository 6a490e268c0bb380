use Rattle.std.proofs.Common.{arith, rules}
use Rattle.std.specs.List.{find}
use Rattle.markdown_nodes.specs.View.{view}
use Rattle.markdown_nodes.specs.WalkLevels.{coming}
use Rattle.mdast_check.specs.References.{definition_identifier_of, footnote_identifier_of}
use Rattle.markdown_nodes.specs.Walk.{walk}
use Rattle.markdown_nodes.proofs.WalkSteps.{next_is, none_is}
use Rattle.mdast_util.specs.Definitions.{defines}
use Rattle.markdown_html.specs.Gathered.{found}
use Rattle.markdown_html.specs.Html.{is_footnote}
use Rattle.markdown_html.proofs.Maps.{gathered, gathers}
use Rattle.markdown_html.proofs.Sums.{sums_all, sums_more, sums_none}
use Rattle.markdown_html.proofs.source.Source.new.Goals as goal

pub nodes-preserved : goal.nodes-preserved
nodes-preserved c =
    let before = coming c.nodes.walk in
    let after = coming c.next.new.self in
    let all = walk (view c.args.tree.now) in
    let next = next_is c.in_ok-node.field-0 c.in-Some.node before after c.in_ok-node.ensures.next c.in-Some.is in
    record {
      definitions = λ identifier. gathers definition_identifier_of c.in-Some.node.now c.definition_identifier.result before after identifier (found c.nodes.definitions identifier) (found c.put_first.new.map identifier) (find (defines identifier) all) next c.definition_identifier.ensures (c.in_ok-put_first.ensures identifier) (c.nodes.invariant.definitions identifier);
      footnotes = λ identifier. gathers footnote_identifier_of c.in-Some.node.now c.footnote_identifier.result before after identifier (found c.nodes.footnotes identifier) (found c.put_first-in-Some.new.map identifier) (find (is_footnote identifier) all) next c.footnote_identifier.ensures (c.in_ok-put_first-2.ensures identifier) (c.nodes.invariant.footnotes identifier);
      texts = sums_more (view c.args.tree.now) c.in-Some.node.now before after c.nodes.texts c.label_texts.result c.saturating_add-texts.result next c.label_texts.ensures c.saturating_add-texts.ensures c.nodes.invariant.texts;
    }

pub nodes-init : goal.nodes-init
nodes-init c =
    record {
      definitions = λ identifier. search rules;
      footnotes = λ identifier. search rules;
      texts = sums_none (view c.args.tree.now) (coming c.new-walk.result) c.new-walk.ensures;
    }

pub invariant_of-result : goal.invariant_of-result
invariant_of-result c =
    let tree = view c.args.tree.now in
    let left = coming c.nodes.walk in
    let none = none_is c.in_ok-node.field-0 left (coming c.next.new.self) c.in_ok-node.ensures.next c.in_default.is in
    record {
      definitions = λ identifier. gathered (defines identifier) left (found c.nodes.definitions identifier) (find (defines identifier) (walk tree)) none (c.nodes.invariant.definitions identifier);
      footnotes = λ identifier. gathered (is_footnote identifier) left (found c.nodes.footnotes identifier) (find (is_footnote identifier) (walk tree)) none (c.nodes.invariant.footnotes identifier);
      budget_is = sums_all tree left c.nodes.texts c.budget.result none (omega arith) c.nodes.invariant.texts c.budget.ensures;
    }
