use Rattle.markdown_text.proofs.AttentionEvents.{written_other}
use Rattle.markdown_text.proofs.Spans.{written_on}
use Rattle.markdown_text.proofs.Standings.{ending_allowed, ending_at}
use Rattle.markdown_text.proofs.calls.line_ending.Goals as goal

pub line_ending-requires-clause-may : goal.line_ending-requires-clause-may
line_ending-requires-clause-may g c = λ end line. ending_allowed (g.R.References.text c.args.writer.now.given.references) c.args.writer.now c.args.name end line c.requires.may

pub returns-clause-at : goal.returns-clause-at
returns-clause-at g c = λ waits a outer at. ending_at c.args.writer.now c.line_ending.new.self c.args.name waits a outer at c.line_ending.ensures.given c.in_ok-line_ending.ensures.start c.in_ok-line_ending.ensures.written

pub returns-clause-within : goal.returns-clause-within
returns-clause-within g c = λ constructs within on. written_on constructs c.args.writer.now c.line_ending.new.self c.args.name c.args.writer.now.cursor c.line_ending.new.self.cursor within on c.in_ok-line_ending.ensures.events c.in_ok-line_ending.ensures.written

pub returns-clause-attention : goal.returns-clause-attention
returns-clause-attention g c = λ other. written_other c.args.writer.now.events c.line_ending.new.self.events c.args.name c.args.writer.now.cursor c.line_ending.new.self.cursor other c.in_ok-line_ending.ensures.events
