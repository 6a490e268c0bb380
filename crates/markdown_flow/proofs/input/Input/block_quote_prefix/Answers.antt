use Rattle.std.proofs.Common.{subst, sym}
use Rattle.std.proofs.lemmas.Result.{on_ok_weaker}
use Rattle.markdown_flow.specs.Moves.{HasMoved}
use Rattle.markdown_flow.proofs.Inputs.{quote_goes}
use Rattle.markdown_flow.proofs.Moves.{moved_on}
use Rattle.markdown_flow.proofs.input.Input.block_quote_prefix.Goals as goal

pub push-requires-clause-goes : goal.push-requires-clause-goes
push-requires-clause-goes c = quote_goes c.args.self.now.line c.skip.new.self c.skip_columns.new.self c.skip.ensures.moved c.skip_columns.ensures.moved c.requires.some c.requires.ascii c.skip.ensures.rest c.skip_columns.ensures.text

pub returns-clause-moved : goal.returns-clause-moved
returns-clause-moved c =
    let moved = moved_on c.args.self.now.line c.skip.new.self c.skip_columns.new.self c.skip.ensures.moved c.skip_columns.ensures.moved in
    on_ok_weaker c.push.result (λ same. subst (HasMoved c.args.self.now.line) (sym same) moved) c.push.ensures.line
