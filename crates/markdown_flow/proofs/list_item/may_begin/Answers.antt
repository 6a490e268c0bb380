use Rattle.markdown_flow.proofs.list_item.may_begin.Goals as goal

pub returns-else-not-interrupts-clause-no : goal.returns-else-not-interrupts-clause-no
returns-else-not-interrupts-clause-no c missing = (c.if-not-interrupts.false, c.may_interrupt.ensures.no missing)
