use Rattle.std.proofs.Common.{◌≡◌, ◌++◌, [], drop, if◌then◌else◌, codes, string_bytes}
use Rattle.markdown_json.specs.Fields.{alignments}
use Rattle.markdown_json.proofs.fields.push_alignments.Given as goal

-- what is written and the columns to come are the whole
abbrev pub invariant-columns : goal.invariant-columns
invariant-columns l = string_bytes l.out ++ alignments (if l.later then codes "," else []) (drop l.kind-index l.align) ≡ string_bytes l.initial.out ++ alignments [] l.align
