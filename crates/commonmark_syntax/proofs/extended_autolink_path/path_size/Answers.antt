use Rattle.std.proofs.Common.{arith, get_or, length, refl, sym, ◌∙◌, ◌≡◌}
use Rattle.commonmark_syntax.specs.ExtendedAutolinks.{path}
use Rattle.commonmark_syntax.proofs.Paths.{all_read, none_more, path_taken}
use Rattle.commonmark_syntax.proofs.extended_autolink_path.path_size.Goals as goal

pub returns-then-ends_path-clause-exact : goal.returns-then-ends_path-clause-exact
returns-then-ends_path-clause-exact c =
    let s = c.args.text.now in
    let i = c.loop-size.size in
    let none = none_more c.args.in_bracket c.loop-size.depth s i (get_or s i 0) c.loop-size-test.true refl (sym c.ends_path.ensures.exact ∙ c.if-ends_path.true) in
    let size : i ≡ length (path c.args.in_bracket s) = omega (arith, none, c.loop-size.invariant.path) in
    path_taken c.args.in_bracket s i size

pub returns-clause-exact : goal.returns-clause-exact
returns-clause-exact c =
    let s = c.args.text.now in
    let none = all_read c.args.in_bracket c.loop-size.depth s c.loop-size.size (omega (arith, c.loop-size-test.false)) in
    let size : length s ≡ length (path c.args.in_bracket s) = omega (arith, none, c.loop-size.invariant.path, c.loop-size.auto.size-end, c.loop-size-test.false) in
    path_taken c.args.in_bracket s (length s) size
