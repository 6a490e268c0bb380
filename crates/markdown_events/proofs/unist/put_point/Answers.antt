use Rattle.markdown_events.proofs.Decimals.{nothing, nothing-IsUtf8, point-is}
use Rattle.markdown_events.proofs.unist.put_point.Goals as goal

pub returns-clause-text : goal.returns-clause-text
returns-clause-text c =
    point-is c.args.point _ _ _ _ _ _ _ (nothing c.args.buffer.now 64 c.told-buffer) c.put_text-end.ensures.text c.put_decimal-end.ensures.text c.put_text-end-2.ensures.text c.put_decimal-end-2.ensures.text c.put_text-end-3.ensures.text c.put_decimal.ensures.text

pub returns-clause-utf8 : goal.returns-clause-utf8
returns-clause-utf8 c =
    c.put_decimal.ensures.utf8 (c.put_text-end-3.ensures.utf8 (c.put_decimal-end-2.ensures.utf8 (c.put_text-end-2.ensures.utf8 (c.put_decimal-end.ensures.utf8 (c.put_text-end.ensures.utf8 (nothing-IsUtf8 c.args.buffer.now 64 c.told-buffer))))))
