use Rattle.std.proofs.Common.{ℕ, List, Bor, None, Option, Some, lit<, rules, string_bytes}
use Rattle.std.proofs.lemmas.Str.Pattern.{split_parts}
use Rattle.mdast_util.proofs.Adding.{added}
use Rattle.mdast_util.proofs.Outlining.{last_written, line_written}
use Rattle.mdast_util.proofs.outline.add_in_one_line.Goals as goal

pub lines-preserved : goal.lines-preserved
lines-preserved c =
    let found : Option (Bor (List ℕ) × Bor (List ℕ)) = Some (c.in-Some.line, c.in-Some.after) in
    let parts = split_parts 10 c.lines.rest.now found c.in-Some.ensures.cases (lit< tt) in (
      search rules,
      line_written _ (string_bytes c.lines.text) (string_bytes c.push_str.new.self) (string_bytes c.push_str-in-Some.new.self) c.lines.rest.now c.in-Some.line.now c.in-Some.after.now
          c.lines.invariant.1 parts.0 parts.1 c.in_ok-push_str.ensures.bytes c.in_ok-push_str-2.ensures.bytes,
    )

pub returns : goal.returns
returns c =
    let found : Option (Bor (List ℕ) × Bor (List ℕ)) = None in
    added c.push_str-2.result (string_bytes c.lines.text) (string_bytes c.push_str-2.new.self) c.lines.rest.now _ c.push_str-2.ensures.bytes
    (last_written _ (string_bytes c.lines.text) c.lines.rest.now c.lines.invariant.1 (split_parts 10 c.lines.rest.now found c.in_default.ensures.cases (lit< tt)))
