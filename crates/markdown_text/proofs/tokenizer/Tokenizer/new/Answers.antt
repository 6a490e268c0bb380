use Rattle.std.proofs.Common.{[], refl, true, ◌≡◌}
use Rattle.std.proofs.lemmas.List.Elements.{All-nil, All-same}
use Rattle.markdown_text.proofs.AttentionRuns.{none_waits}
use Rattle.markdown_text.specs.Constructs.{is_form_on, is_kind_on}
use Rattle.markdown_text.specs.declared.brackets.Bracket.{Bracket}
use Rattle.markdown_text.specs.declared.token.Token.{Token}
use Rattle.markdown_text.proofs.tokenizer.Tokenizer.new.Goals as goal

pub invariant_of-result : goal.invariant_of-result
invariant_of-result g c =
    let cs = c.args.source.now.reading.now.options.constructs in
    let is_token_on = λ (t : Token). is_kind_on cs t.kind ≡ true in
    let is_bracket_on = λ (b : Bracket). is_form_on cs b.form ≡ true in
    record {
      tokens_on = All-same is_token_on c.take_cleared.result.items [] c.take_cleared.ensures (All-nil is_token_on);
      brackets_on = All-same is_bracket_on c.new-2.result.stack.items [] c.new-2.ensures (All-nil is_bracket_on);
      attention_on = c.new.ensures.on cs;
      backticks_known = tt;
      dollars_known = tt;
      missing_known = c.new-3.ensures c.args.source.now.bytes.now refl;
      refused_known = c.new-4.ensures c.args.source.now.bytes.now;
    }

pub returns-clause-wait : goal.returns-clause-wait
returns-clause-wait g c = none_waits c.args.source.now.reading.now.options c.args.source.now.bytes.now c.new.result c.new.ensures.runs c.new.ensures.delimiters
