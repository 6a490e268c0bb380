use Rattle.std.proofs.Common.{◌≢◌, arith}
use Rattle.markdown_flow.proofs.Inputs.{white_goes}
use Rattle.markdown_flow.proofs.input.Input.columns.Goals as goal

pub push-requires-clause-goes : goal.push-requires-clause-goes
push-requires-clause-goes c =
    let old = c.args.self.now.line in
    let new = c.skip_columns.new.self in
    let differ : new.columns ≢ old.columns = λ same. absurd (omega (arith, same, c.columns.ensures, c.columns-2.ensures, c.if-columns.false)) in
    white_goes old new c.skip_columns.ensures.moved c.skip_columns.ensures.text differ
