use Rattle.std.proofs.Common.{◌≡◌, ◌-◌, ◌++◌, ℕ, ap, ◌∙◌, string_bytes, arith}
use Rattle.std.specs.Prelude.{codes}
use Rattle.std.specs.List.{repeat}
use Rattle.mdast_util.proofs.Outlining.{once_more}
use Rattle.mdast_util.proofs.outline.add_indent.Goals as goal

pub levels-preserved : goal.levels-preserved
levels-preserved c = once_more (string_bytes c.args.text.now) (string_bytes c.levels.text) (string_bytes c.push_str.new.self) (codes "  ") c.levels.counter c.levels.invariant c.in_ok-push_str.ensures.bytes

pub returns : goal.returns
returns c =
    let all : c.levels.counter ≡ c.args.depth - 1 = omega arith in
    c.levels.invariant ∙ ap (λ (n : ℕ). string_bytes c.args.text.now ++ repeat n (codes "  ")) all
