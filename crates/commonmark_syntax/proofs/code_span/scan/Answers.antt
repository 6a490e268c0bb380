use Rattle.commonmark_syntax.proofs.Strings.{none_after}
use Rattle.std.proofs.Common.{rules, sym, ◌+◌, ◌∙◌}
use Rattle.commonmark_syntax.specs.Strings.{AreLast}
use Rattle.commonmark_syntax.proofs.code_span.scan.Goals as goal

pub returns-in-Some-clause-exact : goal.returns-in-Some-clause-exact
returns-in-Some-clause-exact c =
    let last : AreLast c.args.mark c.args.content.now c.in-Some.known = search rules in
    none_after c.args.mark c.args.content.now c.args.size (c.args.at + c.args.size) _ c.requires.within c.requires.some c.requires.next (λ i string. last c.args.size i c.requires.some string) (sym c.has_after.ensures ∙ c.if-not-has_after.true)
