use Rattle.markdown_text.proofs.AttentionEvents.{begun_attention, begun_other}
use Rattle.markdown_text.proofs.Spans.{begun_on}
use Rattle.markdown_text.proofs.Standings.{enter_allowed, enter_at}
use Rattle.markdown_text.proofs.calls.enter.Goals as goal

pub enter-requires : goal.enter-requires
enter-requires g c = record { may = enter_allowed c.args.writer.now c.args.name c.requires }

pub returns-clause-at : goal.returns-clause-at
returns-clause-at g c = λ a outer at. enter_at c.args.writer.now c.enter.new.self c.args.name a outer at c.enter.ensures.given c.in_ok-enter.ensures.cursor c.in_ok-enter.ensures.opened

pub returns-clause-within : goal.returns-clause-within
returns-clause-within g c = λ constructs within on. begun_on constructs c.args.writer.now c.enter.new.self c.args.name c.args.writer.now.cursor within on c.in_ok-enter.ensures.events c.in_ok-enter.ensures.opened

pub returns-clause-others : goal.returns-clause-others
returns-clause-others g c = λ other. begun_other c.args.writer.now.events c.enter.new.self.events c.args.name c.args.writer.now.cursor other c.in_ok-enter.ensures.events

pub returns-clause-attention : goal.returns-clause-attention
returns-clause-attention g c = λ is. begun_attention c.args.writer.now.events c.enter.new.self.events c.args.name c.args.writer.now.cursor is c.in_ok-enter.ensures.events
