use Rattle.std.proofs.Common.{◌∙◌, List, ap, drop, refl, subst, sym, take, ℕ}
use Rattle.std.proofs.lemmas.List.{take-append-drop}
use Rattle.event_writer.specs.Stages.{Stage, inlines}
use Rattle.event_writer.specs.Written.{Given, Written}
use Rattle.markdown_pieces.specs.Spans.{AreOn as ArePiecesOn}
use Rattle.markdown_pieces.specs.Tilings.{Spot, Tiles, end_from}
use Rattle.markdown_pieces.specs.declared.piece.Piece.{Piece}
use Rattle.markdown_pieces.specs.Walks.{State, Steps, Walks, same}
use Rattle.markdown_pieces.specs.Walks.{at as state}
use Rattle.markdown_pieces.specs.declared.piece.PieceKind.{PieceKind}
use Rattle.markdown_pieces.specs.declared.piece.PieceKind.TheVariants.{Text}
use Rattle.markdown_text.proofs.Contents.{content_taken, tiles_parted}
use Rattle.markdown_text.proofs.Steps.{says_at}
use Rattle.markdown_text.proofs.Parted.{less_at_place}
use Rattle.markdown_text.proofs.Switches.{dropped_on}
use Rattle.markdown_text.proofs.Tasks.{content_walks, place_after_piece, task_begins, text_inlines, walked}
use Rattle.markdown_text.specs.Contents.{spot}
use Rattle.markdown_text.specs.Standings.{IsAt}
use Rattle.markdown_text.specs.Spans.{IsWithin}
use Rattle.markdown_text.specs.Tasks.{IsAtPlace, IsTaskPlace}
use Rattle.markdown_text.specs.declared.content.Place.TheVariants.{BeforeText}
use Rattle.markdown_text.specs.declared.document.TaskPlace.{TaskPlace}
use Rattle.markdown_text.proofs.document.write_stretch.Goals as goal

pub inlines-requires-clause-tiles : goal.inlines-requires-clause-tiles
inlines-requires-clause-tiles g c =
    let i = c.pieces.invariant in
    let from = spot c.pieces.writer.value.cursor in
    let document = c.args.reading.now.document.now in
    let parts = tiles_parted document from (end_from (spot c.args.writer.value.cursor) c.args.pieces.now) c.pieces.rest.now c.content_size.result i.tiles in
    subst (λ (bs : List ℕ). Tiles bs from c.split_at.result.0.now (end_from from c.split_at.result.0.now)) (sym (ap (λ (g : Given _). g.bytes) i.given ∙ c.requires.document))
    (subst (λ (ps : List Piece). Tiles document from ps (end_from from ps)) (sym c.split_at.ensures.front) parts.0)

pub inlines-requires-clause-begins : goal.inlines-requires-clause-begins
inlines-requires-clause-begins g c =
    let w = c.pieces.writer.value in
    let may = c.requires.nest in
    let n = c.pieces.invariant.nest may.before may.after may.at may.walks in
    let k = subst (λ (ps : List Piece). Walks n.0 ps may.after) c.in-Some.ensures.cases.0 n.2 in
    let step : Steps Text k.0 k.1 = subst (λ (kind : PieceKind). Steps kind k.0 k.1) (c.is_text.ensures.yes c.if-is_text.true) k.3 in
    let h = text_inlines k.0.stage step.0 in
    record { in_heading = h.0; outer = k.0.outer; at = (subst (λ (a : Stage). IsAt w a k.0.outer) h.1 (says_at w k.0 n.0 k.2 n.1.0), task_begins w c.pieces.place k.0 n.0 h.0 k.2 h.1 n.1.1) }

pub write_piece-requires-clause-kind : goal.write_piece-requires-clause-kind
write_piece-requires-clause-kind g c = λ h. absurd (cc (c.if-is_text.false, c.is_text.ensures.no h))

pub write_piece-requires-clause-step : goal.write_piece-requires-clause-step
write_piece-requires-clause-step g c =
    let may = c.requires.nest in
    let n = c.pieces.invariant.nest may.before may.after may.at may.walks in
    let k = subst (λ (ps : List Piece). Walks n.0 ps may.after) c.in-Some.ensures.cases.0 n.2 in
    let here = subst (λ (w : Written _). IsAtPlace w c.pieces.place n.0) (sym c.deref_mut.ensures.value) n.1 in
    record { before = k.0; after = k.1; at = says_at c.deref_mut.result.now k.0 n.0 k.2 here.0; steps = k.3 }

pub pieces-preserved : goal.pieces-preserved
pieces-preserved g c =
    let i = c.pieces.invariant in
    let p = c.in-Some.piece.now in
    let is = c.in-Some.ensures.cases.0 in
    let document = c.args.reading.now.document.now in
    let end = end_from (spot c.args.writer.value.cursor) c.args.pieces.now in
    let wrote = c.in_ok-write_piece.ensures in
    let same = c.deref_mut.ensures.value in
    let constructs = c.args.reading.now.options.constructs in
    let on = subst (ArePiecesOn constructs) is i.on in
    record {
      given = c.write_piece.ensures.given ∙ ap (λ (w : Written _). w.given) same ∙ i.given;
      tiles = subst (λ (s : Spot). Tiles document s c.in-Some.later.now end) (sym wrote.spot) (subst (λ (qs : List Piece). Tiles document (spot c.pieces.writer.value.cursor) qs end) is i.tiles).1;
      nest = λ s t at walks.
          let n = i.nest s t at walks in
          let k = subst (λ (ps : List Piece). Walks n.0 ps t) is n.2 in
          let before = subst (λ (w : Written _). IsAtPlace w c.pieces.place n.0) (sym same) n.1 in
          let here = wrote.at k.0 k.1 k.3 (says_at c.deref_mut.result.now k.0 n.0 k.2 before.0) in (
            k.1,
            (
              here,
              subst (λ (place : TaskPlace). IsTaskPlace c.write_piece.new.writer place k.1) (sym c.after-place.ensures) (place_after_piece c.deref_mut.result.now c.write_piece.new.writer c.pieces.place p.kind k.0 n.0 k.1 k.2 k.3 here wrote.at before.1),
            ),
            k.4,
          );
      within = wrote.within constructs on.0 (subst (λ (w : Written _). IsWithin constructs w) (sym same) i.within);
      on = on.1;
    }

pub pieces-preserved-then-is_text : goal.pieces-preserved-then-is_text
pieces-preserved-then-is_text g c =
    let i = c.pieces.invariant in
    let from = spot c.pieces.writer.value.cursor in
    let document = c.args.reading.now.document.now in
    let end = end_from (spot c.args.writer.value.cursor) c.args.pieces.now in
    let parts = tiles_parted document from end c.pieces.rest.now c.content_size.result i.tiles in
    let w = c.pieces.writer.value in
    let rest = c.pieces.rest.now in
    let size = c.content_size.result in
    let is = c.in-Some.ensures.cases.0 in
    let text = c.is_text.ensures.yes c.if-is_text.true in
    record {
      given = c.in_ok-writer.ensures.given ∙ i.given;
      tiles = subst (λ (s : Spot). Tiles document s c.split_at.result.1.now end) (sym (c.in_ok-writer.ensures.end ∙ ap (λ (ps : List Piece). end_from from ps) c.split_at.ensures.front))
          (subst (λ (ps : List Piece). Tiles document (end_from from (take c.content_size.result c.pieces.rest.now)) ps end) (sym c.split_at.ensures.back) parts.1);
      nest = λ s t at walks.
          let n = i.nest s t at walks in
          let k = subst (λ (ps : List Piece). Walks n.0 ps t) is n.2 in
          let step : Steps Text k.0 k.1 = subst (λ (kind : PieceKind). Steps kind k.0 k.1) text k.3 in
          let h = text_inlines k.0.stage step.0 in (
            state (inlines h.0) k.0.outer,
            (
              c.in_ok-writer.ensures.at h.0 k.0.outer (subst (λ (a : Stage). IsAt w a k.0.outer) h.1 (says_at w k.0 n.0 k.2 n.1.0), task_begins w c.pieces.place k.0 n.0 h.0 k.2 h.1 n.1.1),
              tt,
            ),
            subst (λ (ps : List Piece). Walks (state (inlines h.0) k.0.outer) ps t) (sym c.split_at.ensures.back)
                (content_walks BeforeText (take size rest) (drop size rest) h.0 k.0.outer t (content_taken rest c.in-Some.piece.now c.in-Some.later.now size is text c.content_size.ensures.least c.content_size.ensures.lines)
                (subst (λ (ps : List Piece). Walks (state (inlines h.0) k.0.outer) ps t) (sym (take-append-drop size rest)) (subst (λ (s : State). Walks s rest t) (λ i. record { stage = h.1 i; outer = k.0.outer })
                (subst (λ (ps : List Piece). Walks k.0 ps t) (sym is) (k.0, k.1, same k.0 refl, k.3, k.4))))),
          );
      within = c.in_ok-writer.ensures.within;
      on = subst (ArePiecesOn c.args.reading.now.options.constructs) (sym c.split_at.ensures.back) (dropped_on c.args.reading.now.options.constructs size rest i.on);
    }

pub pieces-init : goal.pieces-init
pieces-init g c = record {
  given = refl;
  tiles = c.requires.tiles;
  nest = λ s t at walks. (s, at, walks);
  within = c.requires.within;
  on = c.requires.on;
}

pub returns-clause-nest : goal.returns-clause-nest
returns-clause-nest g c = λ s t at walks.
    let n = c.pieces.invariant.nest s t at walks in
    less_at_place c.pieces.writer.value c.pieces.place t n.0 (walked n.0 t c.pieces.rest.now c.in_default.ensures.cases n.2) n.1
