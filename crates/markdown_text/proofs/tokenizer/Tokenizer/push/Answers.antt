use Rattle.std.proofs.Common.{refl, subst, true, ◌≡◌}
use Rattle.std.specs.Prelude.{is_ok}
use Rattle.markdown_text.proofs.Switches.{pushed_on}
use Rattle.markdown_text.proofs.Reached.{with_token}
use Rattle.markdown_text.specs.Constructs.{is_found_on}
use Rattle.markdown_text.proofs.tokenizer.Tokenizer.push.Goals as goal

pub returns-in_ok-push-clause-tokens : goal.returns-in_ok-push-clause-tokens
returns-in_ok-push-clause-tokens g c = with_token c.args.self.now.tokens.items c.push.new.self.items _ c.args.found.kind c.args.cursor.at _ c.in-Some.is refl refl c.in_ok-push.ensures.items

pub invariant_of-self-clause-tokens_on : goal.invariant_of-self-clause-tokens_on
invariant_of-self-clause-tokens_on g c =
    let cs = c.args.self.now.source.now.reading.now.options.constructs in
    pushed_on cs c.args.self.now.tokens.items c.push.new.self.items _ (is_ok c.push.result) c.push.ensures.items c.args.self.now.tokens_on (subst (λ kind. is_found_on cs kind ≡ true) c.in-Some.is c.requires.on)
