use Rattle.std.proofs.Common.{refl, subst, sym}
use Rattle.markdown_flow.proofs.Outputs.{stands_with}
use Rattle.markdown_flow.specs.Outputs.{constructs_of, document_of}
use Rattle.markdown_pieces.proofs.Spans.{on_with}
use Rattle.markdown_pieces.specs.Spans.{IsOn}
use Rattle.markdown_pieces.specs.Tilings.{Goes, end_from, origin}
use Rattle.markdown_pieces.specs.declared.piece.PieceKind.{PieceKind}
use Rattle.markdown_flow.proofs.Opens.{exited_on}
use Rattle.markdown_flow.proofs.output.Output.exit_before_held.Goals as goal

pub returns-clause-stands : goal.returns-clause-stands
returns-clause-stands c =
    record {
      within = c.requires.within;
      tiles = stands_with c.args.self.now c.push.new.self.items c.at_end-piece.result c.requires c.in_ok-push.ensures.items c.at_end-piece.ensures.end (subst (λ (k : PieceKind). Goes (document_of c.args.self.now) k (end_from origin c.args.self.now.pieces.items) (end_from origin c.args.self.now.pieces.items)) (sym c.at_end-piece.ensures.kind) refl);
      between = c.requires.between;
      on = on_with (constructs_of c.args.self.now) c.push.new.self.items c.args.self.now.pieces.items c.at_end-piece.result c.in_ok-push.ensures.items c.requires.on (subst (IsOn (constructs_of c.args.self.now)) (sym c.at_end-piece.ensures.kind) tt);
    }

pub returns-clause-writes : goal.returns-clause-writes
returns-clause-writes c = λ w. record { stands = returns-clause-stands c; none_held = w.none_held; from_start = w.from_start; place = w.place }

pub returns-clause-opens : goal.returns-clause-opens
returns-clause-opens c = λ a b outer opens. exited_on c.args.self.now c.push.new.self.items c.at_end-piece.result c.args.name a b outer opens c.in_ok-push.ensures.items c.at_end-piece.ensures.kind
