use Rattle.std.proofs.Common.{ap, sym, ◌∙◌, unwrap_or}
use Rattle.markdown_events.proofs.Cuts.{copied_or, unpadded}
use Rattle.markdown_events.proofs.text.without_padding.Goals as goal

pub returns-in-Some : goal.returns-in-Some
returns-in-Some c =
    let value = c.args.value.now in
    ap (λ found. found.now) c.unwrap_or.ensures
    ∙ copied_or c.before_last.result c.args.value
    ∙ ap (λ found. unwrap_or found value) c.before_last.ensures
    ∙ unpadded value c.in-Some.rest.now c.if-value-le2.false (sym c.if-is_all_spaces.ensures) c.in-Some.ensures
