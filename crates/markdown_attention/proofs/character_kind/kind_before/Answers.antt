use Rattle.std.proofs.Common.{[], sym, ◌∙◌}
use Rattle.std.specs.Char.{encode_utf8}
use Rattle.std.proofs.lemmas.List.{append-nil}
use Rattle.markdown_attention.proofs.character_kind.kind_before.Goals as goal

pub returns-clause-character : goal.returns-clause-character
returns-clause-character c =
    λ front char ok e. c.kind_after.ensures.character char [] ok (c.last_character.ensures.character front char ok e ∙ sym (append-nil (encode_utf8 char)))
