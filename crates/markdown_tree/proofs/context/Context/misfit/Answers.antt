use Rattle.std.proofs.Common.{Bool, ap, is_some, not, refl, sym, ◌&&◌, ◌∙◌}
use Rattle.markdown_grammar.specs.Document.{Given, byte_at}
use Rattle.markdown_grammar.specs.Items.{is_frontmatter}
use Rattle.markdown_tree.proofs.Misfits.{lacks_first_byte, last_misfit, misfit_of_break, misfit_of_context, misfit_of_leaf, misfit_of_rest}
use Rattle.markdown_tree.proofs.context.Context.misfit.Goals as goal

pub returns-then-self : goal.returns-then-self
returns-then-self c s same = misfit_of_leaf s c.args.self.now c.args.what c.args.point.now c.if-self.true

pub returns-then-interrupts_break : goal.returns-then-interrupts_break
returns-then-interrupts_break c s same =
    misfit_of_break s c.args.self.now c.args.what c.args.point.now c.interrupts_break.result c.if-self.false c.interrupts_break.ensures c.if-interrupts_break.true

pub returns-in-Some : goal.returns-in-Some
returns-in-Some c s same =
    misfit_of_context s c.args.self.now c.args.what c.args.point.now c.interrupts_break.result _ c.if-self.false c.interrupts_break.ensures c.if-interrupts_break.false (sym c.in-Some.is ∙ c.container_misfit.ensures)

pub returns-then-nests_table : goal.returns-then-nests_table
returns-then-nests_table c s same =
    ap (λ (b : Bool). last_misfit b (lacks_first_byte s c.args.what c.args.point.now)) (sym c.if-nests_table.true)
    ∙ misfit_of_rest s c.args.self.now c.args.what c.args.point.now c.interrupts_break.result c.nests_table.result (lacks_first_byte s c.args.what c.args.point.now) c.if-self.false c.interrupts_break.ensures c.if-interrupts_break.false (sym c.in_default.is ∙ c.container_misfit.ensures) c.nests_table.ensures refl

pub returns-then-lacks_first_byte : goal.returns-then-lacks_first_byte
returns-then-lacks_first_byte c s same =
    let lacks = c.lacks_first_byte.ensures ∙ ap (λ (given : Given). is_frontmatter c.args.what && not (is_some (byte_at given.bytes c.args.point.now))) (sym same) in
    (λ t. last_misfit (sym c.if-nests_table.false t) (sym c.if-lacks_first_byte.true t))
    ∙ misfit_of_rest s c.args.self.now c.args.what c.args.point.now c.interrupts_break.result c.nests_table.result c.lacks_first_byte.result c.if-self.false c.interrupts_break.ensures c.if-interrupts_break.false (sym c.in_default.is ∙ c.container_misfit.ensures) c.nests_table.ensures lacks

pub returns : goal.returns
returns c s same =
    let lacks = c.lacks_first_byte.ensures ∙ ap (λ (given : Given). is_frontmatter c.args.what && not (is_some (byte_at given.bytes c.args.point.now))) (sym same) in
    (λ t. last_misfit (sym c.if-nests_table.false t) (sym c.if-lacks_first_byte.false t))
    ∙ misfit_of_rest s c.args.self.now c.args.what c.args.point.now c.interrupts_break.result c.nests_table.result c.lacks_first_byte.result c.if-self.false c.interrupts_break.ensures c.if-interrupts_break.false (sym c.in_default.is ∙ c.container_misfit.ensures) c.nests_table.ensures lacks
