use Rattle.std.proofs.Common.{◌∙◌, ap, refl}
use Rattle.markdown_flow.proofs.Ascii.{ascii_black, ascii_later}
use Rattle.markdown_flow.specs.Outputs.{rest_of}
use Rattle.markdown_flow.specs.declared.output.Extent.{Extent}
use Rattle.markdown_flow.proofs.thematic_break.write.Goals as goal

pub runs-preserved : goal.runs-preserved
runs-preserved c =
    let before = c.runs.invariant in
    let token = c.in_ok-token.ensures in
    let space = c.in_ok-white_space-2.ensures in
    let extent = space.extent ∙ token.extent in
    record {
      written = record {
        writes = space.writes;
        source = ap (λ (e : Extent). e.source) extent ∙ before.written.source;
        end = ap (λ (e : Extent). e.end) extent ∙ before.written.end;
        next = ap (λ (e : Extent). e.next) extent ∙ before.written.next;
      };
      ascii = ascii_black (rest_of c.token.new.self) _ space.rest (ascii_later (rest_of c.runs.output) _ _ token.rest before.ascii);
      stays = λ a outer opens. space.same a outer (token.same a refl outer (before.stays a outer opens));
    }
