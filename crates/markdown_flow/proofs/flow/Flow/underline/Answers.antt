use Rattle.std.proofs.Common.{ap, ◌∙◌}
use Rattle.markdown_flow.proofs.Flows.{none_kept, reads_begun}
use Rattle.markdown_flow.specs.Outputs.{source_of, next_of, spot}
use Rattle.markdown_flow.proofs.flow.Flow.underline.Goals as goal

pub returns-in_default-clause-end : goal.returns-in_default-clause-end
returns-in_default-clause-end c =
    let output = c.begin.new.self in
    let content = c.clear.new.self in
    let begun = c.in_ok-begin.ensures in
    (c.in_ok-keep.ensures.kept (source_of output) (spot output.cursor) (none_kept (source_of output) content.prefixes.items (spot output.cursor) content.lines.items c.clear.ensures)
    (reads_begun output c.begin.new.input c.args.input.now.line content.lines.items begun.at begun.line begun.taken c.clear.ensures)).1
    ∙ ap next_of begun.line
