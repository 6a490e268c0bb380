use Rattle.std.proofs.Common.{◌≡◌, ◌≢◌, ◌∙◌, ap, arith, refl, subst, sym}
use Rattle.markdown_flow.proofs.Outputs.{held_between, held_on, rest_goes}
use Rattle.markdown_flow.specs.Outputs.{document_of, spot}
use Rattle.markdown_flow.specs.declared.output.Extent.{Extent}
use Rattle.markdown_pieces.specs.Spans.{AreOn}
use Rattle.markdown_pieces.specs.Tilings.{Goes, Spot, Tiles, end_of, origin}
use Rattle.markdown_pieces.specs.Walks.{IsBetween}
use Rattle.markdown_pieces.specs.declared.piece.Piece.{Piece}
use Rattle.std.proofs.Common.{◌++◌, drop}
use Rattle.markdown_flow.proofs.output.Output.hold_white_space.Goals as goal

pub returns-clause-stands : goal.returns-clause-stands
returns-clause-stands c =
    let output = c.args.self.now in
    let extent = output.cursor.extent in
    let place = c.requires.place in
    let after = c.after-end.ensures in
    let order = place.rest.order in
    let end : c.after-end.result.offset ≡ extent.end = grind arith in
    let more : output.cursor.offset ≢ extent.end = λ same. absurd (omega (arith, same, end, c.if-end-self.false)) in
    let there : spot c.after-end.result ≡ record { offset = extent.end; virtual_spaces = 0 } = λ t. record { offset = end t; virtual_spaces = after.whole t } in
    let last : end_of c.new-space.result ≡ record { offset = extent.end; virtual_spaces = 0 } = ap end_of c.new-space.ensures ∙ (λ t. record { offset = end t; virtual_spaces = 0 }) in
    let goes : Goes (document_of output) c.new-space.result.kind (spot output.cursor) (end_of c.new-space.result) =
    subst (λ (s : Spot). Goes (document_of output) c.new-space.result.kind (spot output.cursor) s) (sym last)
    (subst (λ (p : Piece). Goes (document_of output) p.kind (spot output.cursor) (record { offset = extent.end; virtual_spaces = 0 })) (sym c.new-space.ensures) (rest_goes output.cursor place more)) in
    let held = held_on output c.push.new.self.items c.new-space.result (spot c.after-end.result) c.requires.stands c.in_ok-push.ensures.items goes (last ∙ sym there) in
    record {
      within = held.0;
      tiles = subst (λ (x : Extent). Tiles x.source.document.now origin (output.pieces.items ++ drop output.held_start c.push.new.self.items) (spot c.after-end.result)) (sym after.extent) held.1;
      between = held_between output c.push.new.self.items c.new-space.result c.requires.stands c.in_ok-push.ensures.items (subst (λ (p : Piece). IsBetween p.kind) (sym c.new-space.ensures) refl);
      on = subst (λ (x : Extent). AreOn x.source.constructs.now output.pieces.items) (sym after.extent) c.requires.stands.on;
    }
