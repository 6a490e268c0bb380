use Rattle.markdown_events.proofs.Decimals.{nothing, nothing-IsUtf8}
use Rattle.markdown_json.proofs.PointTexts.{end-is}
use Rattle.markdown_json.proofs.positions.put_end.Goals as goal

pub returns-clause-text : goal.returns-clause-text
returns-clause-text c =
    end-is c.args.place _ _ _ _ _ _ _ _ (nothing c.args.buffer.now 98 c.told-buffer)
    c.put_text-at.ensures.text c.put_decimal-at.ensures.text c.put_text-at-2.ensures.text c.put_decimal-at-2.ensures.text c.put_text-at-3.ensures.text c.put_decimal-at-3.ensures.text c.put_text.ensures.text

pub returns-clause-utf8 : goal.returns-clause-utf8
returns-clause-utf8 c =
    let braces = c.put_text-at.ensures.utf8 (nothing-IsUtf8 c.args.buffer.now 98 c.told-buffer) in
    let offset = c.put_text-at-2.ensures.utf8 (c.put_decimal-at.ensures.utf8 braces) in
    let column = c.put_text-at-3.ensures.utf8 (c.put_decimal-at-2.ensures.utf8 offset) in
    c.put_text.ensures.utf8 (c.put_decimal-at-3.ensures.utf8 column)
