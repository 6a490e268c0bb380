use Rattle.std.proofs.Common.{arith, rules}
use Rattle.std.specs.List.{list_any}
use Rattle.std.specs.Str.{bytes_eq}
use Rattle.markdown_nodes.specs.View.{view}
use Rattle.markdown_nodes.specs.WalkLevels.{coming}
use Rattle.mdast_check.specs.Known.{has}
use Rattle.mdast_check.specs.References.{answers, definition_identifier_of, footnote_identifier_of}
use Rattle.markdown_nodes.specs.Walk.{walk}
use Rattle.mdast_check.specs.declared.references.OpenKind.TheVariants.{Link, Footnote}
use Rattle.mdast_check.proofs.Gathering.{gathers}
use Rattle.markdown_nodes.proofs.WalkSteps.{next_is}
use Rattle.mdast_check.proofs.references.known_in.Goals as goal

pub nodes-preserved : goal.nodes-preserved
nodes-preserved c =
    let before = coming c.nodes.walk in
    let after = coming c.next.new.self in
    let all = walk (view c.args.tree.now) in
    let next = next_is c.in_ok-node.field-0 c.in-Some.node before after c.in_ok-node.ensures.next c.in-Some.is in
    record {
      definitions = gathers definition_identifier_of c.in-Some.node.now c.definition_identifier.result before after (has c.nodes.definitions) (has c.put.new.set) (λ text. list_any (bytes_eq text) (answers Link all)) next c.definition_identifier.ensures c.in_ok-put.ensures c.nodes.invariant.definitions;
      footnotes = gathers footnote_identifier_of c.in-Some.node.now c.footnote_identifier.result before after (has c.nodes.footnotes) (has c.put-in-Some.new.set) (λ text. list_any (bytes_eq text) (answers Footnote all)) next c.footnote_identifier.ensures c.in_ok-put-2.ensures c.nodes.invariant.footnotes;
    }

pub returns : goal.returns
returns c = search rules
