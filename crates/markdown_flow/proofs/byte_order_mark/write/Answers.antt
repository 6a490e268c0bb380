use Rattle.std.proofs.Common.{◌≡◌, ◌∙◌, [], ◌∷◌, ◌-◌, drop, length, subst, sym, take}
use Rattle.std.proofs.lemmas.Bool.Decides.{Decides-eqb}
use Rattle.std.proofs.lemmas.Slice.Eq.{starts_is}
use Rattle.markdown_flow.proofs.Marks.{mark_end}
use Rattle.markdown_flow.specs.declared.line.Source.{Source}
use Rattle.markdown_flow.proofs.byte_order_mark.write.Goals as goal

pub token_to-requires-clause-cut : goal.token_to-requires-clause-cut
token_to-requires-clause-cut c = λ other.
    let first = c.args.first in
    let begins = (starts_is Decides-eqb c.rest.result.now (239 ∷ 187 ∷ 191 ∷ []) c.starts_with.result c.starts_with.ensures.value).0 c.if-not-starts_with.false in
    let after = c.skip.new.self in
    subst (λ (s : Source). take (after.end - length after.rest.now) s.document.now ≡ 239 ∷ 187 ∷ 191 ∷ []) (sym c.in_ok-begin_kept.ensures.at.source)
    (mark_end first after (drop 3 c.rest.result.now) c.skip.ensures.moved (sym c.requires.start ∙ c.requires.origin) (sym c.rest.ensures ∙ begins) c.skip.ensures.rest)
