use Rattle.std.proofs.Common.{false, refl}
use Rattle.event_writer.specs.Stages.{flow, inlines}
use Rattle.markdown_events.specs.declared.event.Name.TheVariants.{Frontmatter}
use Rattle.markdown_pieces.specs.Walks.{inside}
use Rattle.markdown_flow.proofs.frontmatter.write.Goals as goal

pub returns-then-is_fence-clause-opens : goal.returns-then-is_fence-clause-opens
returns-then-is_fence-clause-opens c numbered outer opens =
    let around = inside Frontmatter (flow numbered) outer in
    let entered = c.in_ok-enter.ensures.opens (flow numbered) outer (c.in_ok-begin_kept.ensures.opens (flow numbered) refl outer opens) in
    let begun = c.lines.invariant.stays around (c.in_ok-write_fence.ensures.opens around entered) in
    let next = c.in_ok-begin_kept-2.ensures.opens (inlines false) refl around (c.in_ok-end_line.ensures.opens (inlines false) around begun) in
    c.in_ok-end.ensures.opens numbered outer (c.in_ok-write_fence-2.ensures.opens around next)
