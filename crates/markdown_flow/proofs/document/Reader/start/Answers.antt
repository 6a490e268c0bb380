use Rattle.markdown_flow.proofs.Lines.{columns-at-start}
use Rattle.markdown_flow.proofs.document.Reader.start.Goals as goal

pub new-requires : goal.new-requires
new-requires c = λ _. columns-at-start c.args.source.document.now
