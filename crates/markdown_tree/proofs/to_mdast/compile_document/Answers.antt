use Rattle.std.proofs.Common.{rules}
use Rattle.markdown_grammar.specs.Document.{source_of}
use Rattle.markdown_tree.proofs.Answered.{found, ordered_so, other_bound, refused_so, tree_bound}
use Rattle.markdown_tree.proofs.to_mdast.compile_document.Goals as goal

pub returns-clause-found : goal.returns-clause-found
returns-clause-found g c = found (source_of c.args.document.now (g.R.References.text c.args.references.now)) c.args.steps.now.events c.compile_list.result c.compile_list.ensures.gives

pub returns-clause-ordered : goal.returns-clause-ordered
returns-clause-ordered g c = ordered_so (source_of c.args.document.now (g.R.References.text c.args.references.now)) c.args.steps.now.events c.compile_list.result c.compile_list.ensures.gives c.compile_list.ensures.fits

pub returns-clause-refused : goal.returns-clause-refused
returns-clause-refused g c = refused_so (source_of c.args.document.now (g.R.References.text c.args.references.now)) c.args.steps.now.events c.compile_list.result c.compile_list.ensures.gives

pub returns-clause-bound : goal.returns-clause-bound
returns-clause-bound g c =
    tree_bound (source_of c.args.document.now (g.R.References.text c.args.references.now)) c.args.steps.now.events c.compile_list.result c.args.steps.now.count _ c.compile_list.ensures.gives c.compile_list.ensures.bound

pub returns-clause-bound_without : goal.returns-clause-bound_without
returns-clause-bound_without g c =
    other_bound (source_of c.args.document.now (g.R.References.text c.args.references.now)) c.args.steps.now.events c.compile_list.result c.args.steps.now.count _ c.compile_list.ensures.bound

pub returns-clause-empty : goal.returns-clause-empty
returns-clause-empty g c = search rules
