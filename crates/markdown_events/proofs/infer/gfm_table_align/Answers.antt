use Rattle.std.proofs.Common.{◌≡◌, ◌∙◌, subst, IfOk, List, arith}
use Rattle.markdown_events.specs.declared.infer.AlignKind.{AlignKind}
use Rattle.markdown_events.proofs.Aligns.{align_at}
use Rattle.markdown_events.proofs.infer.gfm_table_align.Goals as goal

pub returns-clause-value : goal.returns-clause-value
returns-clause-value c = λ children begins.
    subst (λ (w : List AlignKind). IfOk c.table_align.result (λ kinds. kinds.items ≡ w)) (align_at c.args.events.now c.args.index children begins) c.table_align.ensures.value

pub returns-clause-memory : goal.returns-clause-memory
returns-clause-memory c = λ children begins none. c.table_align.ensures.memory (align_at c.args.events.now c.args.index children begins ∙ none)
