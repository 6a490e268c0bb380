-- How warnings are printed.
use Rattle.std.specs.Prelude.{ℕ, ◌==◌, ◌||◌, if◌then◌else◌, List, [], ◌++◌, Option, None, Some, chars, codes, encode_utf8, flat_map}
use Rattle.std.specs.Char.{is_control}
use Rattle.std.specs.Fmt.{decimal}
use Rattle.markdown_events.specs.declared.unist.Position.{Position}
use Rattle.mdast_check.specs.Report.{kind_text}
use Rattle.mdast_check.specs.Warnings.{Finding, Warned, definition_duplicate, definition_unused, footnote_unused, heading_jump, image_without_alt, link_without_address, link_without_text, reference_undefined}

-- a character, or a space in place of a control character, U+2028 or U+2029
abbrev pub on_line : ℕ → List ℕ
on_line c = if is_control c || c == 0x2028 || c == 0x2029 then codes " " else encode_utf8 c

-- an identifier between quotes, on one line
abbrev pub named : List ℕ → List ℕ
named identifier = codes "\"" ++ flat_map on_line (chars identifier) ++ codes "\""

-- the reason for a warning: a sentence for people
abbrev pub reason_of : Finding → List ℕ
reason_of (heading_jump before depth) = codes "heading of depth " ++ decimal depth ++ codes " after one of depth " ++ decimal before
reason_of (reference_undefined kind identifier) = codes "nothing defines the " ++ kind_text kind ++ codes " " ++ named identifier
reason_of (definition_unused identifier) = codes "nothing refers to the definition " ++ named identifier
reason_of (footnote_unused identifier) = codes "nothing calls the footnote " ++ named identifier
reason_of (definition_duplicate identifier) = named identifier ++ codes " is defined before"
reason_of link_without_address = codes "the link has no address"
reason_of link_without_text = codes "the link has no text"
reason_of image_without_alt = codes "the image has no alternative text"

-- the rule that is violated: an identifier for programs
abbrev pub rule_of : Finding → List ℕ
rule_of (heading_jump _ _) = codes "heading-jump"
rule_of (reference_undefined _ _) = codes "reference-undefined"
rule_of (definition_unused _) = codes "definition-unused"
rule_of (footnote_unused _) = codes "footnote-unused"
rule_of (definition_duplicate _) = codes "definition-duplicate"
rule_of link_without_address = codes "link-empty"
rule_of link_without_text = codes "link-empty"
rule_of image_without_alt = codes "image-without-alt"

-- `line:column: ` of the start, if there is a position
abbrev pub start_text : Option Position → List ℕ
start_text None = []
start_text (Some position) = decimal position.start.line ++ codes ":" ++ decimal position.start.column ++ codes ": "

-- `line:column: warning: reason (rule)`
abbrev pub warning_text : Warned → List ℕ
warning_text it = start_text it.position ++ codes "warning: " ++ reason_of it.finding ++ codes " (" ++ rule_of it.finding ++ codes ")"
