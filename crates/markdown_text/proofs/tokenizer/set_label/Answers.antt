use Rattle.std.proofs.Common.{ap, refl, ◌∙◌}
use Rattle.std.proofs.lemmas.Option.{get_or_from_slice_get}
use Rattle.markdown_text.proofs.Reached.{label_open, label_reach}
use Rattle.markdown_text.specs.declared.token.Token.{Token}
use Rattle.markdown_text.proofs.tokenizer.set_label.Goals as goal

pub returns-clause-reach : goal.returns-clause-reach
returns-clause-reach c =
    let ts = c.args.tokens.now.items in
    let i = c.args.bracket.now.token in
    let t = c.requires.opened.0 in
    let at = c.requires.opened.1 in
    let same = c.index_mut.ensures.value ∙ get_or_from_slice_get ts i t c.index_mut.result.now at in
    label_reach ts i t _ c.args.bracket.now.form c.args.labelled at c.requires.opened.2 c.requires.size refl (ap (λ (u : Token). u.start) same) (ap (λ (u : Token). u.end) same)

pub returns-clause-opened : goal.returns-clause-opened
returns-clause-opened c brackets opened =
    let ts = c.args.tokens.now.items in
    let i = c.args.bracket.now.token in
    let t = c.requires.opened.0 in
    let at = c.requires.opened.1 in
    let same = c.index_mut.ensures.value ∙ get_or_from_slice_get ts i t c.index_mut.result.now at in
    label_open ts brackets i t _ c.args.labelled at refl (ap (λ (u : Token). u.start) same) (ap (λ (u : Token). u.end) same) opened
