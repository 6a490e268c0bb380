use Rattle.std.proofs.Common.{◌≡◌, take}
use Rattle.markdown_json.specs.Utf16.{counts_after}
use Rattle.markdown_json.proofs.utf16.Counts.up_to.Given as goal

-- the counts of the bytes so far
abbrev pub invariant-loop-offset : goal.invariant-loop-offset
invariant-loop-offset l = l.last ≡ counts_after (take l.offset l.fn.document)
