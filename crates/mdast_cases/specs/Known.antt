-- The decoders of the cases.
use Rattle.std.specs.Prelude.{ℕ, List, Option, Some, None, codes, if◌then◌else◌}
use Rattle.std.specs.Str.{bytes_eq}
use Rattle.character_references.specs.Decoder.{decoded}
use Rattle.character_references.specs.Html.{html}
use Rattle.mdast_cases.specs.declared.decoder.CaseDecoder.{CaseDecoder}
use Rattle.mdast_cases.specs.declared.decoder.CaseDecoder.TheVariants.{Usual, Blank, Html}

-- a space for the empty value
abbrev pub blank : List ℕ → Option (List ℕ)
blank value = if bytes_eq value (codes "") then Some (codes " ") else None

-- the text that each decoder knows
abbrev pub known : CaseDecoder → List ℕ → ℕ → Option (List ℕ)
known Usual value marker = decoded value marker
known Blank value marker = blank value
known Html value marker = html value marker
