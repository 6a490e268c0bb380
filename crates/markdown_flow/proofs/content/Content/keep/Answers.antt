use Rattle.std.proofs.Common.{◌≡◌, ◌++◌, ◌∙◌, List, ap, arith, length, subst, sym}
use Rattle.markdown_flow.proofs.Contents.{after_one_more, are_kept_more, are_kept_on, kept_last}
use Rattle.markdown_flow.specs.Contents.{AreKept, after_lines}
use Rattle.markdown_flow.specs.Outputs.{next_of, spot_in}
use Rattle.markdown_flow.specs.declared.content.KeptLine.{KeptLine}
use Rattle.markdown_flow.specs.declared.line.Line.{Line}
use Rattle.markdown_pieces.specs.Tilings.{Tiles}
use Rattle.markdown_pieces.specs.declared.piece.Piece.{Piece}
use Rattle.markdown_flow.proofs.content.Content.keep.Goals as goal

pub returns-clause-kept : goal.returns-clause-kept
returns-clause-kept c = λ source from kept reads.
    let content = c.args.self.now in
    let prefix = c.args.input.now.prefix.items in
    let same = c.take_prefix.ensures.line in
    let taken = c.in_ok-take_prefix.ensures.taken in
    let line : KeptLine = record { line = c.take_prefix.new.self.line; depth = c.take_prefix.new.self.depth; prefix_start = c.len-prefix_start.result; prefix_end = c.len.result } in
    let mid = after_lines from content.lines.items in
    let prefixes = content.prefixes.items ++ prefix in
    let start : line.prefix_start ≡ length content.prefixes.items = omega (arith, c.len-prefix_start.ensures, content.prefixes.ok.0) in
    let size : length c.take_prefix.new.into.items ≡ length prefixes = ap (λ (ps : List Piece). length ps) taken in
    let end : line.prefix_end ≡ length prefixes = omega (arith, c.len.ensures, c.take_prefix.new.into.ok.0, size) in
    let tiles : Tiles source.document.now mid prefix (spot_in line.line) = subst (λ (l : Line). Tiles source.document.now mid prefix (spot_in l)) (sym same) reads.prefix in
    let last = kept_last source content.prefixes.items prefix mid line (ap (λ (l : Line). l.source) same ∙ reads.same) start end tiles reads.between in
    let all = are_kept_on source prefixes from content.lines.items line (are_kept_more source content.prefixes.items prefix from content.lines.items kept) last in (
      subst (λ (ps : List Piece). AreKept source ps from c.push.new.self.items) (sym taken) (subst (λ (ls : List KeptLine). AreKept source prefixes from ls) (sym c.in_ok-push.ensures.items) all),
      ap (after_lines from) c.in_ok-push.ensures.items ∙ after_one_more from content.lines.items line ∙ ap next_of same,
    )
