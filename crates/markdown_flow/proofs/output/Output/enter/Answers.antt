use Rattle.std.proofs.Common.{refl, subst, sym}
use Rattle.markdown_flow.proofs.Opens.{entered_on}
use Rattle.markdown_flow.proofs.Outputs.{stands_with, written}
use Rattle.markdown_flow.specs.Outputs.{constructs_of, document_of, spot}
use Rattle.markdown_pieces.proofs.Tilings.{ends}
use Rattle.markdown_pieces.proofs.Spans.{on_with}
use Rattle.markdown_pieces.specs.Spans.{IsOn}
use Rattle.markdown_pieces.specs.Tilings.{Goes, MayBegin, end_from, origin}
use Rattle.markdown_pieces.specs.declared.piece.PieceKind.{PieceKind}
use Rattle.markdown_flow.proofs.output.Output.enter.Goals as goal

pub returns-clause-writes : goal.returns-clause-writes
returns-clause-writes c =
    let output = c.args.self.now in
    let w = c.requires.writes in
    let last = end_from origin output.pieces.items in
    let here = ends (document_of output) origin (spot output.cursor) output.pieces.items (written output w) in
    let begins = subst (MayBegin (document_of output) c.args.name) (sym here) c.requires.begins in
    let stays = subst (λ (k : PieceKind). Goes (document_of output) k last last) (sym c.at_end-piece.ensures.kind) (refl, begins) in
    record {
      stands = record {
        within = (w.stands).within;
        tiles = stands_with output c.push.new.self.items c.at_end-piece.result w.stands c.in_ok-push.ensures.items c.at_end-piece.ensures.end stays;
        between = (w.stands).between;
        on = on_with (constructs_of output) c.push.new.self.items output.pieces.items c.at_end-piece.result c.in_ok-push.ensures.items (w.stands).on (subst (IsOn (constructs_of output)) (sym c.at_end-piece.ensures.kind) c.requires.on);
      };
      none_held = w.none_held;
      from_start = w.from_start;
      place = w.place;
    }

pub returns-clause-opens : goal.returns-clause-opens
returns-clause-opens c = λ a outer opens. entered_on c.args.self.now c.push.new.self.items c.at_end-piece.result c.args.name a outer opens c.in_ok-push.ensures.items c.at_end-piece.ensures.kind
