use Rattle.markdown_text.proofs.AttentionEvents.{ended_attention, ended_other}
use Rattle.markdown_text.proofs.Spans.{exited_on}
use Rattle.markdown_text.proofs.Standings.{exit_allowed, exit_at}
use Rattle.markdown_text.proofs.calls.exit.Goals as goal

pub exit-requires : goal.exit-requires
exit-requires g c = record { may = exit_allowed (g.R.References.text c.args.writer.now.given.references) c.args.writer.now c.requires }

pub returns-clause-at : goal.returns-clause-at
returns-clause-at g c = λ own a name outer at. exit_at c.args.writer.now c.exit.new.self own a name outer at c.exit.ensures.given c.exit.ensures.cursor c.in_ok-exit.ensures.closed

pub returns-clause-within : goal.returns-clause-within
returns-clause-within g c = λ constructs within. exited_on constructs c.args.writer.now c.exit.new.self c.args.writer.now.cursor within c.in_ok-exit.ensures.events c.in_ok-exit.ensures.closed

pub returns-clause-others : goal.returns-clause-others
returns-clause-others g c = λ own a name outer at other. ended_other c.args.writer.now c.exit.new.self.events own a name outer at other c.in_ok-exit.ensures.events

pub returns-clause-attention : goal.returns-clause-attention
returns-clause-attention g c = λ own a name outer at is. ended_attention c.args.writer.now c.exit.new.self.events own a name outer at is c.in_ok-exit.ensures.events
