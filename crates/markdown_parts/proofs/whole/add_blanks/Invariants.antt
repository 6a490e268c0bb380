use Rattle.std.proofs.Common.{◌≡◌, ◌++◌, string_bytes}
use Rattle.markdown_grammar.specs.Whole.{blanks}
use Rattle.markdown_parts.proofs.whole.add_blanks.Given as goal

abbrev pub invariant-loop : goal.invariant-loop
invariant-loop l = string_bytes l.value ≡ string_bytes l.initial.value ++ blanks l.counter
