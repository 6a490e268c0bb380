use Rattle.std.proofs.Common.{◌∙◌, IsTrue, arith, rules}
use Rattle.markdown_text.proofs.Contents.{joined_more}
use Rattle.markdown_text.proofs.content.range_end.Goals as goal

pub loop-piece-preserved : goal.loop-piece-preserved
loop-piece-preserved c =
    let i = c.loop-piece.invariant in
    let yes : IsTrue c.stands_as_it_is.result = search rules in
    let ensured = c.stands_as_it_is.ensures in
    let order = ensured.order yes in
    record {
      order = omega (arith, order, i.order);
      so_far = joined_more c.args.document.now c.args.start c.loop-piece.at c.loop-piece.piece-index c.args.pieces.now _ (omega arith) i.order order (ensured.bytes yes) ∙ i.so_far;
    }
