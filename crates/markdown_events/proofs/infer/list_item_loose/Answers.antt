use Rattle.std.proofs.Common.{ap, ◌∙◌, arith}
use Rattle.markdown_events.specs.Walks.{item_walk, no_child}
use Rattle.markdown_events.proofs.Loose.{after_enter, item-walked}
use Rattle.markdown_events.proofs.infer.list_item_loose.Goals as goal

pub returns : goal.returns
returns c = λ children begins.
    let (name, start, end, spelled, shape) = begins in
    c.item_walk.ensures
    ∙ ap (λ es. item_walk es 0 no_child) (after_enter c.args.events.now c.args.index name start end children spelled)
    ∙ item-walked children name end spelled.0
