use Rattle.std.proofs.Common.{Option, ◌+◌, ◌-◌, ◌≡◌}
use Rattle.std.proofs.lemmas.Option.{IfSome_then}
use Rattle.std.proofs.lemmas.Result.{IfOk-weaker}
use Rattle.std.specs.Prelude.{IfSome}
use Rattle.markdown_text.proofs.Labels.{label_end_is}
use Rattle.markdown_text.specs.Contents.{IsRange}
use Rattle.markdown_text.specs.Texts.{bare}
use Rattle.markdown_text.specs.Tokens.{IsTarget, IsToken}
use Rattle.markdown_text.specs.declared.label_end.Match.{Match}
use Rattle.markdown_text.specs.declared.token.TokenKind.TheVariants.{LabelEnd}
use Rattle.markdown_text.proofs.label_end.scan.Goals as goal

pub returns-clause-found : goal.returns-clause-found
returns-clause-found g c =
    let cursor = c.args.cursor in
    let bytes = cursor.content.now in
    let rest = c.after-2.result.now in
    let labelled = c.in-Some.labelled in
    IfOk-weaker c.with_target.result
    (λ (found : Option Match). IfSome found (λ (m : Match). (m.labelled ≡ labelled) × IsTarget rest m.target 0 (m.size - 1) × IsRange rest 0 (m.size - 1)))
    (λ (found : Option Match). IfSome found (λ (m : Match). IsToken (bare bytes) (LabelEnd m.labelled m.target) cursor.at (cursor.at + m.size)))
    (λ found says. IfSome_then found says (λ m p. label_end_is bytes rest cursor.at m.labelled labelled m.target m.size m.filled cursor.within c.requires.byte c.after-2.ensures.rest c.in-Some.ensures.other p.0 p.1 p.2))
    c.with_target.ensures.found
