use Rattle.std.proofs.Common.{ap, ◌∙◌}
use Rattle.markdown_flow.proofs.Flows.{none_kept, reads_begun}
use Rattle.markdown_flow.specs.Outputs.{source_of, next_of, spot}
use Rattle.markdown_flow.proofs.flow.Flow.start.Goals as goal

pub returns-in_ok-keep-in-None-clause-end : goal.returns-in_ok-keep-in-None-clause-end
returns-in_ok-keep-in-None-clause-end c =
    let output = c.begin.new.self in
    let content = c.args.self.now.content in
    let begun = c.in_ok-begin-in-None.ensures in
    (c.in_ok-keep-in-None.ensures.kept (source_of output) (spot output.cursor) (none_kept (source_of output) content.prefixes.items (spot output.cursor) content.lines.items c.requires.none)
    (reads_begun output c.begin.new.input c.args.input.now.line content.lines.items begun.at begun.line begun.taken c.requires.none)).1
    ∙ ap next_of begun.line
