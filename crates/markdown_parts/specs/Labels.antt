-- The summary of a label by which definitions and references are matched.
use Rattle.std.specs.Prelude.{Option, option_map, string_bytes}
use Rattle.markdown_parts.specs.declared.label.Identified.{Identified}
use Rattle.markdown_steps.specs.Summaries.{PartSummary, named}

-- the summary of an identifier and its text
abbrev pub identified_kept : Option Identified → Option PartSummary
identified_kept x = option_map (λ (i : Identified). named (string_bytes i.identifier) (string_bytes i.label)) x
