use Rattle.std.proofs.Common.{◌≡◌, ◌≢◌, ◌++◌, ◌∙◌, ℕ, ap, arith, drop, subst, sym}
use Rattle.markdown_flow.proofs.Outputs.{ends_here, ending_between, held_between, held_on}
use Rattle.markdown_flow.specs.Outputs.{document_of, line_after, spot}
use Rattle.markdown_flow.specs.declared.line.Source.{Source}
use Rattle.markdown_pieces.specs.Spans.{AreOn}
use mathlib.Core.Path.{transport}
use Rattle.markdown_pieces.proofs.Tilings.{goes_as_ending}
use Rattle.markdown_pieces.specs.Tilings.{Goes, Spot, Tiles, end_of, origin}
use Rattle.markdown_pieces.specs.Walks.{IsBetween}
use Rattle.markdown_pieces.specs.declared.piece.Piece.{Piece}
use Rattle.markdown_flow.proofs.output.Output.hold_ending.Goals as goal

pub returns-clause-stands : goal.returns-clause-stands
returns-clause-stands c =
    let output = c.args.self.now in
    let next = c.next_line-next.ensures in
    let start : c.next_line-next.result.offset ≡ ((output.cursor).extent).next = ap (λ (s : Spot). s.offset) next.spot in
    let more : (output.cursor).offset ≢ ((output.cursor).extent).next = λ same. absurd (omega (arith, start, same, c.if-self-next.false)) in
    let here = transport (sym (goes_as_ending (document_of output) c.args.kind (spot output.cursor) (line_after output.cursor) c.requires.kind)) (ends_here output.cursor c.requires.place c.requires.ended more) in
    let end : end_of c.new.result ≡ line_after output.cursor = ap end_of c.new.ensures ∙ ap (λ (i : ℕ). record { offset = i; virtual_spaces = 0 }) start in
    let goes : Goes (document_of output) c.new.result.kind (spot output.cursor) (end_of c.new.result) =
    subst (λ (s : Spot). Goes (document_of output) c.new.result.kind (spot output.cursor) s) (sym end)
    (subst (λ (p : Piece). Goes (document_of output) p.kind (spot output.cursor) (line_after output.cursor)) (sym c.new.ensures) here) in
    let held = held_on output c.push.new.self.items c.new.result (spot c.next_line-next.result) c.requires.stands c.in_ok-push.ensures.items goes (end ∙ sym next.spot) in
    record {
      within = held.0;
      tiles = subst (λ (s : Source). Tiles s.document.now origin (output.pieces.items ++ drop output.held_start c.push.new.self.items) (spot c.next_line-next.result)) (sym next.source) held.1;
      between = held_between output c.push.new.self.items c.new.result c.requires.stands c.in_ok-push.ensures.items (subst (λ (p : Piece). IsBetween p.kind) (sym c.new.ensures) (ending_between c.args.kind c.requires.kind));
      on = subst (λ (s : Source). AreOn s.constructs.now output.pieces.items) (sym next.source) c.requires.stands.on;
    }
