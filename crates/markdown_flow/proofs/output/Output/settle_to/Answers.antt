use Rattle.std.proofs.Common.{◌≤◌, ◌++◌, ◌∙◌, List, ap, length, slice_range, subst, sym}
use Rattle.markdown_flow.proofs.Outputs.{settled_to}
use Rattle.markdown_pieces.specs.declared.piece.Piece.{Piece}
use Rattle.markdown_flow.specs.Outputs.{constructs_of}
use Rattle.markdown_pieces.proofs.Spans.{on_with_between}
use Rattle.markdown_pieces.proofs.Walks.{between_range}
use Rattle.markdown_pieces.specs.Walks.{AreBetween}
use Rattle.markdown_flow.proofs.Opens.{held_settled}
use Rattle.markdown_flow.proofs.output.Output.settle_to.Goals as goal

pub returns-in_ok-extend_from_slice-clause-stands :
    goal.returns-in_ok-extend_from_slice-clause-stands
returns-in_ok-extend_from_slice-clause-stands c =
    let output = c.args.self.now in
    let found = (c.in-Some.ensures.lookup).0 in
    let same = c.as_slice.ensures.value in
    record {
      within = subst (λ (ps : List Piece). c.args.number ≤ length ps) same found.1;
      tiles = settled_to output c.args.number c.extend_from_slice.new.self.items c.as_slice.result.now c.requires same found.0
          (c.in_ok-extend_from_slice.ensures.items ∙ ap (λ (ps : List Piece). output.pieces.items ++ ps) found.2);
      between = c.requires.between;
      on = on_with_between (constructs_of output) c.extend_from_slice.new.self.items output.pieces.items (slice_range c.as_slice.result.now output.held_start c.args.number) (c.in_ok-extend_from_slice.ensures.items ∙ ap (λ (ps : List Piece). output.pieces.items ++ ps) found.2)
          c.requires.on (between_range output.held_start c.args.number c.as_slice.result.now (subst AreBetween (sym same) c.requires.between));
    }

pub returns-in_ok-extend_from_slice-clause-opens : goal.returns-in_ok-extend_from_slice-clause-opens
returns-in_ok-extend_from_slice-clause-opens c = λ a takes outer opens.
    let found = (c.in-Some.ensures.lookup).0 in
    held_settled c.args.self.now c.extend_from_slice.new.self.items c.as_slice.result.now c.args.self.now.held_start c.args.number a outer c.requires opens c.as_slice.ensures.value
    (c.in_ok-extend_from_slice.ensures.items ∙ ap (λ (ps : List Piece). c.args.self.now.pieces.items ++ ps) found.2) takes
