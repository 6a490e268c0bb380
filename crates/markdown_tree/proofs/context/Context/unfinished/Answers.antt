use Rattle.std.proofs.Common.{false, refl, sym, ◌∙◌}
use Rattle.markdown_parts.specs.Nest.{around_innermost}
use Rattle.markdown_tree.specs.States.{leaf_container, top_of}
use Rattle.markdown_tree.proofs.Unfinished.{is_open_so, left_by}
use Rattle.markdown_tree.proofs.context.Context.unfinished.Goals as goal

pub returns-then-not-is_empty : goal.returns-then-not-is_empty
returns-then-not-is_empty c =
    sym (left_by c.args.self.now false (top_of c.args.self.now).after_break
    (is_open_so c.args.self.now.frames (leaf_container c.args.self.now) (around_innermost c.args.self.now.containers) (sym c.is_empty.ensures ∙ c.if-not-is_empty.true)) refl)
