use Rattle.std.proofs.Common.{rules, ◌≡◌, IsAscii, List, ℕ, ap, map, subst, sym, ◌∙◌, string_bytes}
use Rattle.std.specs.Char.{to_ascii_lowercase}
use Rattle.markdown_events.proofs.Folding.{folded_ascii}
use Rattle.markdown_events.proofs.text.folded.Goals as goal

pub returns : goal.returns
returns c =
    let ascii : IsAscii (string_bytes c.args.text) = subst IsAscii c.as_str.ensures.value c.if-not-is_ascii.ensures.cases in
    c.make_ascii_lowercase.ensures.bytes ∙ sym (folded_ascii (string_bytes c.args.text) ascii)

pub returns-then-not-is_ascii : goal.returns-then-not-is_ascii
returns-then-not-is_ascii c = search rules
