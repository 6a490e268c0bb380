use Rattle.std.proofs.Common.{◌∷◌, [], ◌∙◌, string_bytes}
use Rattle.mdast_util.proofs.Adding.{added}
use Rattle.mdast_util.proofs.Outlining.{a_line, no_line}
use Rattle.mdast_util.proofs.outline.add_line.Goals as goal

pub returns-in_default : goal.returns-in_default
returns-in_default c = no_line c.args.node.now c.depth.result (string_bytes c.args.text.now) c.depth.ensures c.in_default.is

pub returns : goal.returns
returns c =
    added c.push_str-2.result (string_bytes c.push_str.new.self) (string_bytes c.push_str-2.new.self) (10 ∷ []) _ c.push_str-2.ensures.bytes
    (a_line c.args.node.now c.depth.result c.in-Some.depth (string_bytes c.args.text.now) (string_bytes c.add_indent.new.text) (string_bytes c.add_in_one_line.new.text) (string_bytes c.push_str.new.self) c.as_str.result.now c.as_str-2.result.now c.copied.result
    c.depth.ensures c.in-Some.is c.in_ok-add_indent.ensures (c.as_str.ensures.value ∙ c.in_ok-to_string.ensures) c.in_ok-add_in_one_line.ensures (c.copied.ensures ∙ c.position.ensures) (c.as_str-2.ensures.value ∙ c.in_ok-place.ensures) c.in_ok-push_str.ensures.bytes)
