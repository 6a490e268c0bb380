use Rattle.std.proofs.Common.{List, subst, sym}
use Rattle.std.proofs.lemmas.List.Elements.{All-push}
use Rattle.markdown_text.specs.Reached.{AreOpen, IsOpen}
use Rattle.markdown_text.specs.declared.brackets.Bracket.{Bracket}
use Rattle.markdown_text.proofs.brackets.Brackets.push.Goals as goal

pub returns-clause-opened : goal.returns-clause-opened
returns-clause-opened c tokens opened new =
    subst (λ (bs : List Bracket). AreOpen tokens bs) (sym c.in_ok-push.ensures.items) (All-push (IsOpen tokens) c.mark_outer.new.self.stack.items c.args.bracket (c.mark_outer.ensures.opened tokens opened) new)
