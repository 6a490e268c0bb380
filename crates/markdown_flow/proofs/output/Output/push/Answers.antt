use Rattle.markdown_flow.proofs.Outputs.{written_on}
use Rattle.markdown_flow.proofs.Opens.{pushed_on}
use Rattle.std.proofs.Common.{ap, subst, sym}
use Rattle.markdown_flow.specs.Outputs.{IsPlaceIn, constructs_of, spot}
use Rattle.markdown_flow.specs.declared.output.Extent.{Extent}
use Rattle.markdown_pieces.proofs.Spans.{on_with}
use Rattle.markdown_flow.proofs.output.Output.push.Goals as goal

pub returns-clause-writes : goal.returns-clause-writes
returns-clause-writes c =
    let w = c.requires.writes in
    record {
      stands = record {
        within = (w.stands).within;
        tiles = written_on c.args.self.now c.push.new.self.items (spot c.args.cursor) c.args.piece w c.in_ok-push.ensures.items c.requires.end c.requires.goes;
        between = (w.stands).between;
        on = on_with (constructs_of c.args.self.now) c.push.new.self.items c.args.self.now.pieces.items c.args.piece c.in_ok-push.ensures.items (w.stands).on c.requires.on;
      };
      none_held = w.none_held;
      from_start = w.from_start;
      place = subst (λ (e : Extent). IsPlaceIn (record { extent = e; offset = c.args.cursor.offset; virtual_spaces = c.args.cursor.virtual_spaces })) c.requires.extent c.requires.place;
    }

pub returns-clause-cursor : goal.returns-clause-cursor
returns-clause-cursor c = ap (λ (e : Extent). record { extent = e; offset = c.args.cursor.offset; virtual_spaces = c.args.cursor.virtual_spaces }) (sym c.requires.extent)

pub returns-clause-opens : goal.returns-clause-opens
returns-clause-opens c = λ a outer opens. pushed_on c.args.self.now c.push.new.self.items c.args.piece a outer opens c.in_ok-push.ensures.items
