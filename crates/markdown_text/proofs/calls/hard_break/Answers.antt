use Rattle.markdown_text.proofs.AttentionEvents.{written_other}
use Rattle.markdown_text.proofs.Spans.{written_on}
use Rattle.markdown_text.proofs.Standings.{reach_at, break_allowed, break_at}
use Rattle.markdown_text.proofs.calls.hard_break.Goals as goal

pub token-requires-clause-may : goal.token-requires-clause-may
token-requires-clause-may g c = λ end index same. break_allowed (g.R.References.text c.args.writer.now.given.references) c.args.writer.now c.args.name end c.requires.may

pub returns-clause-at : goal.returns-clause-at
returns-clause-at g c = λ a outer may at. break_at c.args.writer.now c.token.new.self c.args.name c.args.to a outer (reach_at c.args.writer.now.given.bytes c.args.writer.now.cursor c.args.to 0 c.requires.reach) c.requires.cut c.requires.may.is_break may at c.token.ensures.given c.in_ok-token.ensures.index c.in_ok-token.ensures.virtual_spaces c.in_ok-token.ensures.written

pub returns-clause-within : goal.returns-clause-within
returns-clause-within g c = λ constructs within on. written_on constructs c.args.writer.now c.token.new.self c.args.name c.args.writer.now.cursor c.token.new.self.cursor within on c.in_ok-token.ensures.events c.in_ok-token.ensures.written

pub returns-clause-attention : goal.returns-clause-attention
returns-clause-attention g c = λ other. written_other c.args.writer.now.events c.token.new.self.events c.args.name c.args.writer.now.cursor c.token.new.self.cursor other c.in_ok-token.ensures.events
