use Rattle.std.proofs.Common.{◌∙◌, List, ap, subst, sym}
use Rattle.event_writer.specs.Written.{Written}
use Rattle.markdown_pieces.proofs.Tilings.{parted}
use Rattle.markdown_pieces.specs.Spans.{AreOn as ArePiecesOn}
use Rattle.markdown_pieces.specs.Tilings.{Spot, Tiles, end_from}
use Rattle.markdown_pieces.specs.Walks.{Walks, start}
use Rattle.markdown_pieces.specs.declared.piece.Piece.{Piece}
use Rattle.markdown_text.proofs.Parted.{none_left, on_parted, walks_parted}
use Rattle.markdown_text.proofs.Steps.{says_at}
use Rattle.markdown_text.proofs.Tasks.{walked}
use Rattle.markdown_text.specs.Contents.{spot}
use Rattle.markdown_text.specs.Standings.{IsAt}
use Rattle.markdown_text.proofs.document.write.Goals as goal

pub write_stretch-requires-clause-tiles : goal.write_stretch-requires-clause-tiles
write_stretch-requires-clause-tiles g c =
    let document = c.args.reading.now.document.now in
    let from = spot c.stretches.writer.value.cursor in
    let end = end_from (spot c.in_ok-writer.writer.value.cursor) c.args.pieces.items in
    let tiles = subst (λ (ps : List Piece). Tiles document from ps end) (sym c.in_ok-later.ensures.all) c.stretches.invariant.tiles in
    subst (λ (ps : List Piece). Tiles document from ps (end_from from ps)) (sym c.as_slice.ensures.value) (parted document from end c.cut_later.new.pieces.items c.in_ok-later.later.items tiles).0

pub write_stretch-requires-clause-nest : goal.write_stretch-requires-clause-nest
write_stretch-requires-clause-nest g c =
    let n = c.stretches.invariant.nest in
    let k = walks_parted n.0 start c.cut_later.new.pieces.items c.in_ok-later.later.items (subst (λ (ps : List Piece). Walks n.0 ps start) (sym c.in_ok-later.ensures.all) n.2) in
    record { before = n.0; after = k.0; at = n.1; walks = subst (λ (ps : List Piece). Walks n.0 ps k.0) (sym c.as_slice.ensures.value) k.1 }

pub write_stretch-requires-clause-on : goal.write_stretch-requires-clause-on
write_stretch-requires-clause-on g c =
    let constructs = c.args.reading.now.options.constructs in
    let on = subst (ArePiecesOn constructs) (sym c.in_ok-later.ensures.all) c.stretches.invariant.on in
    subst (ArePiecesOn constructs) (sym c.as_slice.ensures.value) (on_parted constructs c.cut_later.new.pieces.items c.in_ok-later.later.items on).0

pub stretches-preserved : goal.stretches-preserved
stretches-preserved g c =
    let i = c.stretches.invariant in
    let n = i.nest in
    let ps = c.cut_later.new.pieces.items in
    let qs = c.in_ok-later.later.items in
    let all = sym c.in_ok-later.ensures.all in
    let wrote = c.in_ok-writer-2.ensures in
    let document = c.args.reading.now.document.now in
    let from = spot c.stretches.writer.value.cursor in
    let end = end_from (spot c.in_ok-writer.writer.value.cursor) c.args.pieces.items in
    let constructs = c.args.reading.now.options.constructs in
    let tiles = parted document from end ps qs (subst (λ (rs : List Piece). Tiles document from rs end) all i.tiles) in
    let k = walks_parted n.0 start ps qs (subst (λ (rs : List Piece). Walks n.0 rs start) all n.2) in
    record {
      given = wrote.given ∙ i.given;
      tiles = subst (λ (s : Spot). Tiles document s qs end) (sym (wrote.end ∙ ap (λ (rs : List Piece). end_from from rs) c.as_slice.ensures.value)) tiles.1;
      nest = (k.0, wrote.nest n.0 k.0 n.1 (subst (λ (rs : List Piece). Walks n.0 rs k.0) (sym c.as_slice.ensures.value) k.1), k.2);
      within = wrote.within;
      on = (on_parted constructs ps qs (subst (ArePiecesOn constructs) all i.on)).1;
    }

pub returns-clause-root : goal.returns-clause-root
returns-clause-root g c =
    let n = c.stretches.invariant.nest in
    let none = none_left c.stretches.stretch c.is_empty.result c.stretches-test.false c.is_empty.ensures in
    let at = says_at c.stretches.writer.value start n.0 (walked n.0 start c.stretches.stretch.items none n.2) n.1.0 in
    subst (λ (w : Written _). IsAt w start.stage start.outer) (sym c.into_inner.ensures) at
