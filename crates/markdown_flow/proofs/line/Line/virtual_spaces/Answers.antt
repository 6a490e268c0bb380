use Rattle.std.proofs.Common.{arith}
use Rattle.markdown_flow.proofs.Cursors.{few_columns}
use Rattle.markdown_flow.proofs.line.Line.virtual_spaces.Goals as goal

pub overflow_cast-result : goal.overflow_cast-result
overflow_cast-result c = omega (arith, few_columns c.args.self.now)
