use Rattle.std.proofs.Common.{List, ap, subst, sym, ℕ, ◌∙◌}
use Rattle.event_writer.specs.Places.{IsPlace}
use Rattle.event_writer.specs.Written.{Written}
use Rattle.markdown_events.specs.declared.event.Point.{Point}
use Rattle.markdown_pieces.specs.Tilings.{end_from}
use Rattle.markdown_text.proofs.Utf8.{content_valid}
use Rattle.markdown_text.specs.Contents.{joined, spot}
use Rattle.markdown_text.proofs.document.inlines.Goals as goal

pub inlines_of-requires-clause-utf8 : goal.inlines_of-requires-clause-utf8
inlines_of-requires-clause-utf8 g c =
    let w = c.args.writer.value in
    let at = c.requires.begins.at.0 in
    let same = c.deref.ensures in
    let here = c.cursor-start.ensures.here ∙ ap (λ (v : Written _). v.cursor) same in
    let place = subst (λ (p : Point). IsPlace w.given.bytes p) here (subst (λ (v : Written _). IsPlace v.given.bytes c.cursor-start.result) same c.cursor-start.ensures.place) in
    let is = c.between-bytes.ensures ∙ c.in-Some.ensures ∙ ap (λ (bs : List ℕ). joined bs c.cursor-start.result.index c.args.pieces.now) (sym c.requires.document) ∙ ap (λ (p : Point). joined w.given.bytes p.index c.args.pieces.now) here in
    content_valid w.given.bytes c.between-bytes.result.now w.cursor (end_from (spot w.cursor) c.args.pieces.now) c.args.pieces.now at.valid place at.boundary c.requires.tiles is

pub inlines_of-written-requires-clause-utf8 : goal.inlines_of-written-requires-clause-utf8
inlines_of-written-requires-clause-utf8 g c =
    let w = c.args.writer.value in
    let at = c.requires.begins.at.0 in
    let same = c.deref.ensures in
    let here = c.cursor-start.ensures.here ∙ ap (λ (v : Written _). v.cursor) same in
    let place = subst (λ (p : Point). IsPlace w.given.bytes p) here (subst (λ (v : Written _). IsPlace v.given.bytes c.cursor-start.result) same c.cursor-start.ensures.place) in
    let is = c.as_slice-text.ensures.value ∙ c.in_ok-bytes-in-None.ensures ∙ ap (λ (bs : List ℕ). joined bs c.cursor-start.result.index c.args.pieces.now) (sym c.requires.document) ∙ ap (λ (p : Point). joined w.given.bytes p.index c.args.pieces.now) here in
    content_valid w.given.bytes c.as_slice-text.result.now w.cursor (end_from (spot w.cursor) c.args.pieces.now) c.args.pieces.now at.valid place at.boundary c.requires.tiles is
