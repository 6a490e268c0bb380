use Rattle.std.proofs.Common.{[], refl, subst, sym}
use Rattle.markdown_flow.proofs.Flows.{reads_begun}
use Rattle.markdown_flow.specs.Outputs.{IsAt, source_of, spot}
use Rattle.markdown_flow.specs.declared.output.Cursor.{Cursor}
use Rattle.markdown_flow.proofs.block_quote.open.Goals as goal

pub begin-requires-clause-reads : goal.begin-requires-clause-reads
begin-requires-clause-reads c =
    let output = c.enter.new.self in
    let input = c.args.input.now in
    let here = subst (λ (cursor : Cursor). IsAt cursor input.line) (sym c.enter.ensures.cursor) c.requires.at in
    c.in_ok-continues.ensures.reads (source_of output) (spot output.cursor) (reads_begun output input input.line [] here refl c.requires.taken refl)
