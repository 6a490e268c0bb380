use Rattle.std.proofs.Common.{◌≡◌, Bool, cond, sym, ap, ◌∙◌, string_bytes}
use Rattle.mdast_util.specs.PlainText.{ended}
use Rattle.mdast_util.proofs.Adding.{added}
use Rattle.mdast_util.proofs.Wording.{with_words-is}
use Rattle.mdast_util.proofs.plain_text.add_words.Goals as goal
use Rattle.mdast_util.proofs.plain_text.add_words.Goals.{then-begins_line+in_ok-end_line, else-begins_line}

pub returns : goal.returns
returns c =
    let old = string_bytes c.args.text.now in
    let begins : string_bytes c.if-begins_line.text ≡ cond c.begins_line.result (ended old) old = elim c.if-begins_line.branch [
      | then-begins_line+in_ok-end_line w ↦ ap string_bytes w.text-is ∙ w.in_ok-end_line.ensures ∙ sym (ap (λ (b : Bool). cond b (ended old) old) w.if-begins_line.true)
      | else-begins_line w ↦ ap string_bytes w.text-is ∙ sym (ap (λ (b : Bool). cond b (ended old) old) w.if-begins_line.false)
    ] in
    added c.push_str.result (string_bytes c.if-begins_line.text) (string_bytes c.push_str.new.self) c.words.result.now _ c.push_str.ensures.bytes
    (with_words-is c.args.node.now c.begins_line.result old (string_bytes c.if-begins_line.text) c.words.result.now c.begins_line.ensures begins c.words.ensures)
