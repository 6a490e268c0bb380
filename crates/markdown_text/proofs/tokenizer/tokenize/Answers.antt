use Rattle.std.proofs.Common.{ap, arith, subst, sym, ◌+◌, ◌∙◌}
use Rattle.markdown_text.proofs.AttentionRuns.{pairs_of}
use Rattle.markdown_text.proofs.Found.{are_tokens, found_range, reach_cut, reach_with}
use Rattle.markdown_text.specs.AttentionWaiting.{ArePairsOf, AreWaiting, Wait}
use Rattle.markdown_text.specs.Reached.{AreOpen}
use Rattle.markdown_text.specs.Texts.{text_of}
use Rattle.markdown_text.specs.Tokens.{IsFound}
use Rattle.markdown_text.proofs.tokenizer.tokenize.Goals as goal

pub invariant_of-cursor-clause-cut : goal.invariant_of-cursor-clause-cut
invariant_of-cursor-clause-cut g c =
    let source = c.args.source.now in
    reach_cut (text_of source.bytes.now (g.R.References.text source.reading.now.references.now) c.args.is_task) 0 c.tokens.tokenizer.tokens.items c.tokens.at c.tokens.invariant.reach

pub push-requires-clause-size : goal.push-requires-clause-size
push-requires-clause-size g c =
    let found = c.in_ok-found.found in
    let range = found_range (text_of c.args.source.now.bytes.now (g.R.References.text c.tokens.tokenizer.source.now.reading.now.references.now) c.args.is_task) found.kind c.tokens.at (c.tokens.at + found.size) c.in_ok-found.ensures.found in
    let within = range.within in
    omega (arith, within)

pub tokens-preserved : goal.tokens-preserved
tokens-preserved g c =
    let i = c.tokens.invariant in
    let source = c.args.source.now in
    let text = text_of source.bytes.now (g.R.References.text source.reading.now.references.now) c.args.is_task in
    let found = c.in_ok-found.found in
    let at = c.tokens.at in
    let ensured = c.in_ok-found.ensures in
    let pushed = c.in_ok-push.ensures in
    let token = subst (λ s. IsFound (text_of source.bytes.now (g.R.References.text s.reading.now.references.now) c.args.is_task) found.kind at (at + found.size)) i.source ensured.found in
    let range = found_range text found.kind at (at + found.size) token in
    record {
      within = range.within;
      source = pushed.source ∙ ensured.source ∙ i.source;
      reach = reach_with text 0 c.find.new.self.tokens.items c.push.new.self.tokens.items found.kind at (at + found.size) (ensured.reach text 0 at i.reach) token pushed.tokens;
      opened = subst (λ brackets. AreOpen c.push.new.self.tokens.items brackets.stack.items) (sym pushed.brackets) (ensured.opened c.push.new.self.tokens.items pushed.tokens);
      wait = subst (Wait source.reading.now.options source.bytes.now c.push.new.self.tokens.items (at + found.size)) (sym pushed.attention)
          (subst (λ s. Wait s.reading.now.options source.bytes.now c.push.new.self.tokens.items (at + found.size) c.find.new.self.attention) i.source (ensured.wait c.push.new.self.tokens.items pushed.tokens));
    }

pub returns-clause-found : goal.returns-clause-found
returns-clause-found g c =
    let source = c.args.source.now in
    let within = c.tokens.invariant.within in
    let end = c.tokens-test.false in
    are_tokens (text_of source.bytes.now (g.R.References.text source.reading.now.references.now) c.args.is_task) 0 c.tokens.tokenizer.tokens.items c.tokens.at (omega (arith, within, end)) c.tokens.invariant.reach

pub invariant_of-tokenizer-in_err-resolve : goal.invariant_of-tokenizer-in_err-resolve
invariant_of-tokenizer-in_err-resolve g c =
    let t = c.tokens.tokenizer in
    record { tokens_on = t.tokens_on; brackets_on = t.brackets_on; attention_on = c.resolve.ensures.on t.source.now.reading.now.options.constructs t.attention_on; backticks_known = t.backticks_known; dollars_known = t.dollars_known; missing_known = t.missing_known; refused_known = t.refused_known }

pub invariant_of-tokenizer-2 : goal.invariant_of-tokenizer-2
invariant_of-tokenizer-2 g c =
    let t = c.tokens.tokenizer in
    record { tokens_on = t.tokens_on; brackets_on = t.brackets_on; attention_on = c.resolve.ensures.on t.source.now.reading.now.options.constructs t.attention_on; backticks_known = t.backticks_known; dollars_known = t.dollars_known; missing_known = t.missing_known; refused_known = t.refused_known }

pub returns-clause-pairs : goal.returns-clause-pairs
returns-clause-pairs g c open_ended =
    let source = c.args.source.now in
    let options = source.reading.now.options in
    let t = c.tokens.tokenizer in
    let within = c.tokens.invariant.within in
    let end = c.tokens-test.false in
    let waits = subst (λ n. AreWaiting options source.bytes.now t.tokens.items n t.attention) (omega (arith, within, end)) (c.tokens.invariant.wait open_ended) in
    subst (ArePairsOf options source.bytes.now t.tokens.items) (ap (λ ds. ds.items) (sym c.into_delimiters.ensures.same)) (pairs_of options source.bytes.now t.tokens.items t.attention c.resolve.new.self.delimiters.items waits c.in_ok-resolve.ensures.resolved)
