use Rattle.std.proofs.Common.{ap, length, subst, sym, ◌≡◌}
use Rattle.std.proofs.lemmas.Result.{IfOk-weaker}
use Rattle.std.specs.Str.{IsUtf8}
use Rattle.character_references.specs.declared.html.HtmlReferences.{HtmlReferences}
use Rattle.event_writer.specs.Written.{Given, Written}
use Rattle.markdown_pieces.specs.Tilings.{end_from}
use Rattle.markdown_text.specs.Contents.{spot, whole}
use Rattle.markdown.proofs.Ends.{begins, ends_last, tiles_from}
use Rattle.markdown.proofs.events.written.Goals as goal

pub write-requires-clause-tiles : goal.write-requires-clause-tiles
write-requires-clause-tiles g c =
    let bytes = c.args.document.now in
    tiles_from bytes c.in_ok-writer.writer.cursor c.args.blocks.pieces.items (whole (length bytes)) c.in_ok-writer.ensures.cursor c.requires.blocks.tiles

pub write-requires-clause-root : goal.write-requires-clause-root
write-requires-clause-root g c =
    let new = c.in_ok-writer.ensures in
    begins c.in_ok-writer.writer (subst IsUtf8 (sym (ap (λ (given : Given HtmlReferences). given.bytes) new.given)) c.requires.text) new.cursor new.root

pub returns-clause-end : goal.returns-clause-end
returns-clause-end g c =
    let bytes = c.args.document.now in
    let from = c.in_ok-writer.writer.cursor in
    let ps = c.args.blocks.pieces.items in
    IfOk-weaker c.write.result
    (λ (w : Written HtmlReferences). spot w.cursor ≡ end_from (spot from) ps)
    (λ (w : Written HtmlReferences). w.cursor.index ≡ length bytes)
    (λ w is. ends_last bytes from w.cursor ps c.in_ok-writer.ensures.cursor c.requires.blocks.tiles is)
    c.write.ensures.end
