use Rattle.std.proofs.Common.{◌≡◌, Some, rules}
use Rattle.markdown_html.specs.Page.{index_of}
use Rattle.markdown_html.proofs.Indexes.{index-within}
use Rattle.markdown_html.proofs.calls.Calls.add.Goals as goal

pub again-requires : goal.again-requires
again-requires c =
    let here : index_of c.args.identifier.now c.args.self.now ≡ Some c.in-Some.index = search rules in
    index-within c.args.identifier.now c.args.self.now c.in-Some.index here
