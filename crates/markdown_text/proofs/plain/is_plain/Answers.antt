use Rattle.std.proofs.Common.{ap, eqb-true, false, sym, ◌≡◌, ◌∙◌}
use Rattle.markdown_text.specs.Plain.{may_begin}
use Rattle.markdown_text.proofs.PlainBytes.{each}
use Rattle.markdown_text.proofs.plain.is_plain.Goals as goal

pub returns-in-Some : goal.returns-in-Some
returns-in-Some c = λ all.
    each (λ before byte. may_begin c.args.literals before byte ≡ false) c.args.text.now 32 c.plain_length.result (ap (may_begin c.args.literals 32) (sym (c.in-Some.ensures.item.3.1 0)) ∙ sym c.may_begin.ensures ∙ c.if-not-may_begin.true) c.plain_length.ensures.plain
    (eqb-true _ _ all)
