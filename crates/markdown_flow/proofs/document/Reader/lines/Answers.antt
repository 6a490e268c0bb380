use Rattle.std.proofs.Common.{◌∙◌, ap, sym, ℕ}
use Rattle.markdown_flow.proofs.Nexts.{next_begins, next_within}
use Rattle.markdown_pieces.specs.Tilings.{Spot}
use Rattle.markdown_flow.proofs.document.Reader.lines.Goals as goal

abbrev starts_at : ℕ → Spot
starts_at offset = record { offset = offset; virtual_spaces = 0 }

pub lines-init : goal.lines-init
lines-init c =
    let source = c.source-source.result in
    let line = c.args.first.line in
    let next = c.next-next.result in
    let read = c.in_ok-line.ensures in
    record {
      opens = read.opens;
      stands = read.stands;
      source = read.source;
      taken = read.taken;
      same = c.source-source.ensures ∙ c.requires.reads.same;
      within = next_within source line next (sym c.source-source.ensures) c.next-next.ensures;
      begins = next_begins source line next (sym c.source-source.ensures) c.next-next.ensures;
      end = read.end ∙ ap starts_at (sym c.next-next.ensures);
    }

pub lines-preserved : goal.lines-preserved
lines-preserved c =
    let source = c.source-source.result in
    let line = c.go_to.new.self.line in
    let next = c.next-next-in-lines.result in
    let read = c.in_ok-line-2.ensures in
    let same = c.go_to.ensures.same c.lines-test.true in
    record {
      opens = read.opens;
      stands = read.stands;
      source = read.source ∙ c.lines.invariant.source;
      taken = read.taken;
      same = c.lines.invariant.same;
      within = next_within source line next same c.next-next-in-lines.ensures;
      begins = next_begins source line next same c.next-next-in-lines.ensures;
      end = read.end ∙ ap starts_at (sym c.next-next-in-lines.ensures);
    }
