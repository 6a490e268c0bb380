use Rattle.std.proofs.Common.{arith, ◌<◌}
use Rattle.std.proofs.lemmas.Bool.Decides.{nat_tests}
use Rattle.markdown_flow.proofs.Lines.{columns-at-next}
use Rattle.markdown_flow.proofs.line.Line.following.Goals as goal

pub new-requires : goal.new-requires
new-requires c = λ _.
    let line = c.args.self.now in
    let less : line.end < line.next = grind (arith, nat_tests) in
    columns-at-next line.source.document.now line.start line.end line.next line.whole less
