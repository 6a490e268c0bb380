use Rattle.markdown_grammar.specs.Document.{source_of}
use Rattle.markdown_tree.proofs.Building.{built-none}
use Rattle.markdown_tree.proofs.builder.TreeBuilder.new.Goals as goal

pub invariant_of-result : goal.invariant_of-result
invariant_of-result g c = built-none (source_of c.args.document (g.R.References.text c.args.references.now)) c.none.result c.new.result c.none.ensures c.new.ensures
