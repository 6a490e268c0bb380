use Rattle.std.proofs.Common.{◌+◌, ◌-◌, arith, drop}
use Rattle.markdown_text.proofs.Contents.{ended_at, place_step}
use Rattle.markdown_text.proofs.content.content_size.Goals as goal

pub loop-piece-preserved-in-BeforeText : goal.loop-piece-preserved-in-BeforeText
loop-piece-preserved-in-BeforeText c =
    let i = c.loop-piece.invariant in
    record {
      count = omega arith;
      place = place_step (drop 1 c.args.pieces.now) c.after_first-piece-items.result.now c.loop-piece.piece-index _ c.loop-piece.place c.after-place.result c.after_first-piece-items.ensures c.loop-piece-test.true i.place c.after-place.ensures;
      least = i.least;
      most = omega arith;
      lines = i.lines;
    }

pub loop-piece-preserved : goal.loop-piece-preserved
loop-piece-preserved c =
    let i = c.loop-piece.invariant in
    let place = place_step (drop 1 c.args.pieces.now) c.after_first-piece-items.result.now c.loop-piece.piece-index _ c.loop-piece.place c.after-place.result c.after_first-piece-items.ensures c.loop-piece-test.true i.place c.after-place.ensures in
    record {
      count = omega arith;
      place = place;
      least = omega arith;
      most = omega arith;
      lines = ended_at (drop 1 c.args.pieces.now) (c.loop-piece.count + 1 - 1) c.loop-piece.piece-index c.after-place.result (omega arith) place c.in-AfterText.is;
    }
