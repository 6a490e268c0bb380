use Rattle.std.proofs.Common.{◌≡◌, ◌*◌, take}
use Rattle.markdown_json.specs.Utf16.{AreCountsTo, counts_after}
use Rattle.markdown_json.proofs.utf16.Utf16Points.new.Given as goal

-- the counts of the blocks so far
abbrev pub invariant-loop-block : goal.invariant-loop-block
invariant-loop-block l = (l.last ≡ counts_after (take (32 * l.block) l.fn.document)) × AreCountsTo l.block l.counts.items l.fn.document
