use Rattle.std.proofs.Common.{subst, sym, true, ◌∙◌, ◌≡◌}
use Rattle.markdown_text.proofs.Outputs.{goes_on_then}
use Rattle.markdown_text.proofs.Switches.{first_on, later_on}
use Rattle.markdown_text.specs.AttentionWalk.{WalksOn}
use Rattle.markdown_text.specs.Constructs.{AreTokensOn, is_kind_on}
use Rattle.markdown_text.specs.Outputs.{constructs_of}
use Rattle.markdown_text.proofs.text.write_tokens.Goals as goal

pub write_next-requires-clause-on : goal.write_next-requires-clause-on
write_next-requires-clause-on g c =
    let i = c.tokens.invariant in
    subst (λ cs. is_kind_on cs c.in-Some.token.now.kind ≡ true) (sym i.goes_on.constructs) (first_on (constructs_of c.args.output.now) c.tokens.rest.now c.in-Some.later.now c.in-Some.token.now c.in-Some.ensures.cases.0 i.on)

pub write_next-requires-clause-later_on : goal.write_next-requires-clause-later_on
write_next-requires-clause-later_on g c =
    let i = c.tokens.invariant in
    subst (λ cs. AreTokensOn cs c.in-Some.later.now) (sym i.goes_on.constructs) (later_on (constructs_of c.args.output.now) c.tokens.rest.now c.in-Some.later.now c.in-Some.token.now c.in-Some.ensures.cases.0 i.on)

pub tokens-preserved : goal.tokens-preserved
tokens-preserved g c =
    let i = c.tokens.invariant in
    let wrote = c.in_ok-rest.ensures in
    record {
      given = c.write_next.ensures.given ∙ i.given;
      goes_on = goes_on_then c.args.output.now c.tokens.output c.write_next.new.output i.goes_on wrote.goes_on;
      tokens = wrote.left;
      stage = λ h outer at. wrote.at h outer (i.stage h outer at);
      walks = λ walk is w. wrote.walks walk is (subst (WalksOn walk c.tokens.output c.tokens.«open».items) c.in-Some.ensures.cases.0 (i.walks walk is w));
      on = subst (λ cs. AreTokensOn cs c.in_ok-rest.rest.now) i.goes_on.constructs wrote.on;
    }
