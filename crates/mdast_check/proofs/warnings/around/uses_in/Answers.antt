use Rattle.std.proofs.Common.{arith, rules}
use Rattle.std.specs.List.{list_any}
use Rattle.std.specs.Str.{bytes_eq}
use Rattle.markdown_nodes.specs.View.{view}
use Rattle.markdown_nodes.specs.WalkLevels.{coming}
use Rattle.mdast_check.specs.Known.{has}
use Rattle.markdown_nodes.specs.Walk.{walk}
use Rattle.mdast_check.specs.Warnings.{call_identifier_of, link_identifier_of, uses}
use Rattle.mdast_check.specs.declared.references.OpenKind.TheVariants.{Link, Footnote}
use Rattle.mdast_check.proofs.Gathering.{gathers}
use Rattle.markdown_nodes.proofs.WalkSteps.{next_is}
use Rattle.mdast_check.proofs.warnings.around.uses_in.Goals as goal

pub nodes-preserved : goal.nodes-preserved
nodes-preserved c =
    let before = coming c.nodes.walk in
    let after = coming c.next.new.self in
    let all = walk (view c.args.tree.now) in
    let next = next_is c.in_ok-node.field-0 c.in-Some.node before after c.in_ok-node.ensures.next c.in-Some.is in
    record {
      definitions = gathers link_identifier_of c.in-Some.node.now c.link_identifier.result before after (has c.nodes.definitions) (has c.put.new.set) (λ text. list_any (bytes_eq text) (uses Link all)) next c.link_identifier.ensures c.in_ok-put.ensures c.nodes.invariant.definitions;
      footnotes = gathers call_identifier_of c.in-Some.node.now c.call_identifier.result before after (has c.nodes.footnotes) (has c.put-in-Some.new.set) (λ text. list_any (bytes_eq text) (uses Footnote all)) next c.call_identifier.ensures c.in_ok-put-2.ensures c.nodes.invariant.footnotes;
    }

pub returns : goal.returns
returns c = search rules
