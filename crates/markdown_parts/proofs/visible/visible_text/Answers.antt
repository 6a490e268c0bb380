use Rattle.std.proofs.Common.{[], string_bytes, encode_utf8_all, chars, ◌∙◌, ap, sym, map-id}
use Rattle.std.proofs.lemmas.List.{append-nil}
use Rattle.std.proofs.lemmas.Iterator.{YieldsList-from_chars}
use Rattle.std.proofs.lemmas.Iterator.Consumers.{YieldsList-end}
use Rattle.std.proofs.lemmas.Str.{encodes-chars}
use Rattle.markdown_grammar.specs.Hidden.{visible}
use Rattle.markdown_parts.proofs.HiddenWalk.{visible_walk, visible_walk-bytes}
use Rattle.markdown_parts.proofs.visible.visible_text.Goals as goal

pub returns : goal.returns
returns c =
    let text = c.args.text.now in
    let hidden = c.args.hidden.now in
    let done = YieldsList-end (YieldsList-from_chars text c.utf8.text cc) c.loop-character.yielded _ c.loop-character.yielded_by _ _ c.in-None.is c.next.ensures.steps in
    sym (append-nil (string_bytes c.loop-character.made)) ∙ c.loop-character.invariant []
    ∙ ap (λ cs. encode_utf8_all (visible_walk hidden cs)) (append-nil c.loop-character.yielded ∙ sym (map-id c.loop-character.yielded) ∙ done.0)
    ∙ visible_walk-bytes hidden (chars text)
    ∙ ap (visible hidden) (encodes-chars text c.utf8.text)
