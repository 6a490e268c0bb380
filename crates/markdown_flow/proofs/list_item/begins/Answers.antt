use Rattle.std.proofs.Common.{List, Option, arith, inl, inr, subst, sym, ◌-◌, ℕ}
use Rattle.std.specs.Prelude.{IfNone}
use Rattle.markdown_flow.specs.declared.list_item.ItemStart.{ItemStart}
use Rattle.commonmark_syntax.specs.Blocks.{interrupting_list_marker}
use Rattle.commonmark_syntax.specs.Language.{IsAt}
use Rattle.markdown_flow.specs.Markers.{HasMarker, IsNoItem}
use Rattle.markdown_flow.proofs.list_item.begins.Goals as goal

pub returns-clause-marker : goal.returns-clause-marker
returns-clause-marker c =
    let said = c.in_ok-size.ensures in
    subst (λ (xs : List ℕ). HasMarker xs (c.in_ok-size.size - 1)) c.text-text.ensures (record {
      within = omega (arith, said.least, said.most);
      most = said.digits.0;
      number = said.digits.1;
      marker = said.mark.0;
      not_white = said.mark.1;
    })

pub returns-clause-interrupting : goal.returns-clause-interrupting
returns-clause-interrupting c interrupts = subst (IsAt interrupting_list_marker) c.text-text.ensures (c.may_begin.ensures.yes c.if-not-may_begin.false interrupts)

pub returns-then-not-may_begin-clause-none : goal.returns-then-not-may_begin-clause-none
returns-then-not-may_begin-clause-none c on = subst (IsNoItem c.args.interrupts) c.text-text.ensures (inr (inr (c.may_begin.ensures.no c.if-not-may_begin.true)))

pub returns-in_err-size-clause-none : goal.returns-in_err-size-clause-none
returns-in_err-size-clause-none c on =
    subst (λ (o : Option ItemStart). IfNone o (IsNoItem c.args.interrupts c.args.line.now.text.now)) (sym c.from_residual.ensures)
    (subst (IsNoItem c.args.interrupts) c.text-text.ensures (inr (inl c.in_err-size.ensures.exact)))
