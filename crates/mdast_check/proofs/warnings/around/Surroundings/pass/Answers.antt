use Rattle.mdast_check.specs.Known.{has}
use Rattle.mdast_check.specs.References.{answers, definition_identifier_of, footnote_identifier_of}
use Rattle.mdast_check.specs.declared.references.OpenKind.TheVariants.{Link, Footnote}
use Rattle.mdast_check.proofs.Surrounding.{gathers_one, passes_depth}
use Rattle.mdast_check.proofs.warnings.around.Surroundings.pass.Goals as goal

pub returns : goal.returns
returns c = λ tree before stand.
    let known = c.args.self.now.before in
    record {
      depth = passes_depth c.args.node.now c.depth.result c.args.self.now.depth c.or-self.result before c.depth.ensures c.or-self.ensures stand.depth;
      defined = stand.defined;
      used = stand.used;
      before = (
        gathers_one definition_identifier_of c.args.node.now c.definition_identifier.result (has known.definitions) (has c.put.new.set) (answers Link before) c.definition_identifier.ensures c.in_ok-put.ensures stand.before.0,
        gathers_one footnote_identifier_of c.args.node.now c.footnote_identifier.result (has known.footnotes) (has c.put-2.new.set) (answers Footnote before) c.footnote_identifier.ensures c.in_ok-put-2.ensures stand.before.1,
      );
    }
