use Rattle.std.proofs.Common.{List, ℕ, Bor, None, Option, Some, lit<, rules, string_bytes}
use Rattle.std.proofs.lemmas.Str.Pattern.{split_parts}
use Rattle.markdown_parts.proofs.WholeTexts.{added_part, nul_written, rest_written}
use Rattle.markdown_parts.proofs.whole.add_without_nul.Goals as goal

pub nul-preserved : goal.nul-preserved
nul-preserved c =
    let found : Option (Bor (List ℕ) × Bor (List ℕ)) = Some (c.in-Some.before, c.in-Some.after) in
    let parts = split_parts 0 c.nul.rest.now found c.in-Some.ensures.cases (lit< tt) in (
      search rules,
      nul_written (string_bytes c.nul.value) (string_bytes c.push_str.new.self) (string_bytes c.push_str-in-Some.new.self) _ c.nul.rest.now c.in-Some.before.now c.in-Some.after.now
          c.nul.invariant.1 parts.0 parts.1 c.in_ok-push_str.ensures.bytes c.in_ok-push_str-2.ensures.bytes,
    )

pub returns : goal.returns
returns c =
    let found : Option (Bor (List ℕ) × Bor (List ℕ)) = None in
    added_part c.push_str-2.result (string_bytes c.nul.value) (string_bytes c.push_str-2.new.self) c.nul.rest.now _ c.push_str-2.ensures.bytes
    (rest_written (string_bytes c.nul.value) _ c.nul.rest.now c.nul.invariant.1 (split_parts 0 c.nul.rest.now found c.in_default.ensures.cases (lit< tt)))
