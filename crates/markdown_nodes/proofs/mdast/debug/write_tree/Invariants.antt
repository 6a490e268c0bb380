use Rattle.std.proofs.Common.{List, [], ℕ, if◌then◌else◌, codes, nat_cmp}
use Rattle.std.specs.BTreeSet.{contains}
use Rattle.std.specs.Fmt.{HasWritten, IsPlainFormatter}
use Rattle.markdown_nodes.proofs.Levels.{to_walk}
use Rattle.markdown_nodes.proofs.Showing.{showing}
use Rattle.markdown_nodes.proofs.WritingLevels.{Writes}
use Rattle.markdown_nodes.proofs.mdast.debug.write_tree.Given as goal

abbrev pub invariant-walk : goal.invariant-walk
invariant-walk g l =
    IsPlainFormatter l.fn.f
    → (done : List ℕ) × HasWritten g.W.Write.write_str_gives l.fn.f done l.f × Writes (showing (contains nat_cmp l.fn.escapes)) done (if l.later then codes ", " else []) l.level l.parent l.frames.items l.fn.node

abbrev pub decreases-walk : goal.decreases-walk
decreases-walk g l = to_walk (λ x. x.rest.now) l.level l.frames.items
