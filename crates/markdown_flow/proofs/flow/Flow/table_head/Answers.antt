use Rattle.std.proofs.Common.{subst, sym, ◌∙◌}
use Rattle.markdown_flow.proofs.Contents.{last_kept}
use Rattle.markdown_flow.specs.Contents.{Kept}
use Rattle.markdown_flow.specs.Outputs.{document_of, source_of, spot, spot_in}
use Rattle.markdown_flow.specs.declared.line.Source.{Source}
use Rattle.markdown_pieces.specs.Tilings.{Spot, Tiles}
use Rattle.markdown_flow.proofs.flow.Flow.table_head.Goals as goal

pub write-requires-clause-lines : goal.write-requires-clause-lines
write-requires-clause-lines c =
    let output = c.args.output.now in
    let content = c.args.self.now.content in
    (last_kept (source_of output) content.prefixes.items (spot output.cursor) content.lines.items c.lines.result.now c.header-item.result c.lines.ensures c.requires.some c.header-item.is c.requires.stands.kept).0

pub open-requires-clause-header : goal.open-requires-clause-header
open-requires-clause-header c =
    let output = c.args.output.now in
    let content = c.args.self.now.content in
    let header = (last_kept (source_of output) content.prefixes.items (spot output.cursor) content.lines.items c.lines.result.now c.header-item.result c.lines.ensures c.requires.some c.header-item.is c.requires.stands.kept).1 in
    let written = c.in_ok-write.ensures in
    subst (λ (s : Source). Kept s content.prefixes.items (spot c.write.new.output.cursor) c.header-item.result) (sym written.source)
    (subst (λ (from : Spot). Kept (source_of output) content.prefixes.items from c.header-item.result) (sym written.spot) header)

pub open-requires-clause-input : goal.open-requires-clause-input
open-requires-clause-input c =
    let output = c.args.output.now in
    let content = c.args.self.now.content in
    let end = (last_kept (source_of output) content.prefixes.items (spot output.cursor) content.lines.items c.lines.result.now c.header-item.result c.lines.ensures c.requires.some c.header-item.is c.requires.stands.kept).2 in
    let written = c.in_ok-write.ensures in
    let input = c.args.input.now in
    record {
      between = c.requires.reads.between;
      same = c.requires.reads.same ∙ sym written.source;
      prefix = subst (λ (s : Source). Tiles s.document.now (record { offset = c.header-item.result.line.next; virtual_spaces = 0 }) input.prefix.items (spot_in input.line)) (sym written.source)
          (subst (λ (from : Spot). Tiles (document_of output) from input.prefix.items (spot_in input.line)) end c.requires.reads.prefix);
    }
