use Rattle.std.proofs.Common.{◌≡◌, ◌-◌, ◌≤◌, length}
use Rattle.markdown_text.specs.AttentionWaiting.{Wait}
use Rattle.markdown_text.specs.Reached.{AreOpen, Reach}
use Rattle.markdown_text.specs.Texts.{text_of}
use Rattle.markdown_text.proofs.tokenizer.tokenize.Given as goal

abbrev pub invariant-tokens : goal.invariant-tokens
invariant-tokens g l = record {
  within : l.at ≤ length l.content;
  source : l.tokenizer.source.now ≡ l.source;
  reach : Reach (text_of l.content (g.R.References.text l.source.reading.now.references.now) l.is_task) 0 l.tokenizer.tokens.items l.at;
  opened : AreOpen l.tokenizer.tokens.items l.tokenizer.brackets.stack.items;
  wait : Wait l.source.reading.now.options l.content l.tokenizer.tokens.items l.at l.tokenizer.attention;
}

abbrev pub decreases-tokens : goal.decreases-tokens
decreases-tokens g l = length l.content - l.at
