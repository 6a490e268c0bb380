use Rattle.std.proofs.Common.{arith, [], string_bytes, encode_utf8_all, chars, ◌∙◌, ap, sym, map-id, false}
use Rattle.std.proofs.lemmas.Grind.{common_steps}
use Rattle.std.proofs.lemmas.List.{append-nil}
use Rattle.std.proofs.lemmas.Iterator.{YieldsList-from_chars}
use Rattle.std.proofs.lemmas.Iterator.Consumers.{YieldsList-end}
use Rattle.std.proofs.lemmas.Str.{encodes-chars}
use Rattle.markdown_events.specs.Texts.{spaces}
use Rattle.markdown_events.proofs.LineEndings.{space_walk, space_walk-bytes}
use Rattle.markdown_events.proofs.text.line_endings_to_spaces.Goals as goal

pub returns : goal.returns
returns c =
    let value = c.args.value.now in
    let done = YieldsList-end (YieldsList-from_chars value c.utf8.value cc) c.loop-c.yielded _ c.loop-c.yielded_by _ _ c.in-None.is c.next.ensures.steps in
    sym (append-nil (string_bytes c.loop-c.text)) ∙ c.loop-c.invariant []
    ∙ ap (λ cs. encode_utf8_all (space_walk cs false)) (append-nil c.loop-c.yielded ∙ sym (map-id c.loop-c.yielded) ∙ done.0)
    ∙ space_walk-bytes (chars value)
    ∙ ap spaces (encodes-chars value c.utf8.value)

pub loop-c-preserved : goal.loop-c-preserved
loop-c-preserved c = grind (arith, common_steps)
