use Rattle.std.proofs.Common.{List, ap, arith, drop, length, subst, sym, ℕ, ◌+◌, ◌-◌, ◌∙◌, ◌≡◌, ◌≤◌}
use Rattle.std.proofs.lemmas.List.{drop-drop}
use Rattle.commonmark_syntax.specs.Cuts.{IsInLine}
use Rattle.commonmark_syntax.proofs.Cuts.{line_drop}
use Rattle.markdown_attention.proofs.Segments.{one_more}
use Rattle.markdown_attention.proofs.extended_autolink_segments.past_segments.Goals as goal

pub characters-preserved : goal.characters-preserved
characters-preserved c =
    let text = c.args.text.now in
    let rest = c.characters.rest.now in
    let tail = c.in-Some.tail.now in
    let it = c.characters.invariant in
    let less = c.in-Some.ensures.less in
    let most : length rest ≤ length text = it.most in
    let n : ℕ = length text - length rest in
    let m : ℕ = length rest - length tail in
    let both : n + m ≡ length text - length tail = omega (arith, most, less) in
    record {
      most = omega (arith, most, less);
      rest = c.in-Some.ensures.rest ∙ ap (drop m) it.rest ∙ drop-drop m n text ∙ ap (λ k. drop k text) both;
      line = line_drop text n m (length text - length tail) (sym both) it.line (subst (λ (x : List ℕ). IsInLine x m) it.rest c.in-Some.ensures.in_line);
      read = λ characters ok e.
          (let left = it.read characters ok e in one_more text rest tail characters most it.rest left (c.in-Some.ensures.exact left.0 left.1 left.2));
    }
