use Rattle.markdown_grammar.specs.Document.{source_of}
use Rattle.markdown_tree.proofs.Answered.{found, ordered_so, refused_so}
use Rattle.markdown_tree.proofs.builder.TreeBuilder.finish.Goals as goal

pub returns-clause-found : goal.returns-clause-found
returns-clause-found g c = found (source_of c.args.self.document (g.R.References.text c.args.self.references)) c.args.self.events c.compiled.result c.compiled.ensures.gives

pub returns-clause-refused : goal.returns-clause-refused
returns-clause-refused g c = refused_so (source_of c.args.self.document (g.R.References.text c.args.self.references)) c.args.self.events c.compiled.result c.compiled.ensures.gives

pub returns-clause-ordered : goal.returns-clause-ordered
returns-clause-ordered g c = ordered_so (source_of c.args.self.document (g.R.References.text c.args.self.references)) c.args.self.events c.compiled.result c.compiled.ensures.gives c.compiled.ensures.fits
