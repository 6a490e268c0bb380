use Rattle.std.proofs.Common.{◌≡◌, ◌<◌, ◌∙◌, Bool, arith, subst, sym, true}
use Rattle.event_writer.specs.Stages.{item, item_number}
use Rattle.markdown_flow.proofs.Containers.{some_digits}
use Rattle.markdown_flow.proofs.Inputs.{skips_some}
use Rattle.markdown_flow.proofs.Items.{item_value, marker_after}
use Rattle.markdown_flow.specs.Containers.{before_number}
use Rattle.markdown_flow.specs.Markers.{is_ordered}
use Rattle.markdown_flow.specs.Outputs.{Opens}
use Rattle.markdown_pieces.specs.Walks.{at}
use Rattle.markdown_flow.proofs.list_item.write_number.Goals as goal

pub token_to-requires-clause-value : goal.token_to-requires-clause-value
token_to-requires-clause-value c =
    let some : 0 < c.args.start.digits = omega (arith, c.if-start-eq0.false) in
    item_value c.args.output.now.cursor c.args.line.now c.skip.new.self c.args.start.digits c.requires.at c.skip.ensures.moved c.requires.marker some c.requires.indent c.skip.ensures.rest c.skip.ensures.whole

pub returns-in_err-token_to-clause-marker : goal.returns-in_err-token_to-clause-marker
returns-in_err-token_to-clause-marker c = marker_after c.args.line.now c.skip.new.self c.args.start.digits c.requires.marker c.skip.ensures.rest

pub returns-clause-marker : goal.returns-clause-marker
returns-clause-marker c = marker_after c.args.line.now c.skip.new.self c.args.start.digits c.requires.marker c.skip.ensures.rest

pub returns-clause-opens : goal.returns-clause-opens
returns-clause-opens c = λ outer opens.
    let begun = c.args.start in
    let none = c.if-start-eq0.false in
    let ordered : is_ordered begun.marker ≡ true = begun.counted ∙ some_digits begun.digits none in
    let some : 0 < begun.digits = omega (arith, none) in
    let less = skips_some c.args.output.now.cursor c.args.line.now c.skip.new.self begun.digits c.requires.at c.skip.ensures.moved some c.requires.marker.within c.skip.ensures.rest in
    subst (λ (o : Bool). Opens c.token_to.new.self (at (item o) outer)) (sym ordered)
    (c.in_ok-token_to.ensures.filled item_number outer less (subst (λ (o : Bool). Opens c.args.output.now (at (before_number o) outer)) ordered opens))
