use Rattle.std.proofs.Common.{Some}
use Rattle.std.proofs.lemmas.List.Elements.{All-pop}
use Rattle.markdown_text.specs.Reached.{IsOpen}
use Rattle.markdown_text.proofs.brackets.Brackets.pop.Goals as goal

pub returns-then-eq-clause-left : goal.returns-then-eq-clause-left
returns-then-eq-clause-left c tokens opened = (All-pop (IsOpen tokens) c.args.self.now.stack.items c.pop.new.self.items (Some c.in_ok-bracket.bracket) c.in_ok-bracket.ensures.items opened).0

pub returns-then-eq-clause-closed : goal.returns-then-eq-clause-closed
returns-then-eq-clause-closed c tokens opened = (All-pop (IsOpen tokens) c.args.self.now.stack.items c.pop.new.self.items (Some c.in_ok-bracket.bracket) c.in_ok-bracket.ensures.items opened).1

pub returns-clause-left : goal.returns-clause-left
returns-clause-left c tokens opened = (All-pop (IsOpen tokens) c.args.self.now.stack.items c.pop.new.self.items (Some c.in_ok-bracket.bracket) c.in_ok-bracket.ensures.items opened).0
