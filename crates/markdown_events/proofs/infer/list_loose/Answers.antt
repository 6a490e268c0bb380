use Rattle.std.proofs.Common.{ap, ◌∙◌, arith}
use Rattle.markdown_events.specs.Walks.{list_walk, no_ends}
use Rattle.markdown_events.proofs.Loose.{after_enter}
use Rattle.markdown_events.proofs.Lists.{list-walked}
use Rattle.markdown_events.proofs.infer.list_loose.Goals as goal

pub returns : goal.returns
returns c = λ children begins.
    let (name, start, end, spelled, shape) = begins in
    c.list_walk.ensures
    ∙ ap (λ es. list_walk c.args.include_items es 0 no_ends) (after_enter c.args.events.now c.args.index name start end children spelled)
    ∙ list-walked c.args.include_items children name end spelled.0
