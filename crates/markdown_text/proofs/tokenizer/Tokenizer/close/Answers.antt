use Rattle.std.proofs.Common.{subst, sym}
use Rattle.markdown_text.specs.Constructs.{AreBracketsOn}
use Rattle.markdown_text.specs.Reached.{AreOpen}
use Rattle.markdown_text.proofs.tokenizer.Tokenizer.close.Goals as goal

pub returns-clause-opened : goal.returns-clause-opened
returns-clause-opened g c = c.set_label.ensures.opened c.found.new.self.stack.items (subst (λ stack. AreOpen c.args.self.now.tokens.items stack.items) (sym c.found.ensures) c.requires.opened)

pub invariant_of-self-2 : goal.invariant_of-self-2
invariant_of-self-2 g c =
    let self = c.args.self.now in
    let cs = self.source.now.reading.now.options.constructs in
    record {
      tokens_on = c.set_label.ensures.on cs c.requires.on self.tokens_on;
      brackets_on = subst (λ stack. AreBracketsOn cs stack.items) (sym c.found.ensures) self.brackets_on;
      attention_on = c.resolve.ensures.on cs self.attention_on;
      backticks_known = self.backticks_known;
      dollars_known = self.dollars_known;
      missing_known = self.missing_known;
      refused_known = self.refused_known;
    }

pub invariant_of-self-in-Break-1 : goal.invariant_of-self-in-Break-1
invariant_of-self-in-Break-1 g c =
    let self = c.args.self.now in
    let cs = self.source.now.reading.now.options.constructs in
    record {
      tokens_on = self.tokens_on;
      brackets_on = subst (λ stack. AreBracketsOn cs stack.items) (sym c.found.ensures) self.brackets_on;
      attention_on = c.resolve.ensures.on cs self.attention_on;
      backticks_known = self.backticks_known;
      dollars_known = self.dollars_known;
      missing_known = self.missing_known;
      refused_known = self.refused_known;
    }
