use Rattle.std.proofs.Common.{arith}
use Rattle.markdown_text.proofs.Tokens.{found_rest}
use Rattle.markdown_text.specs.Texts.{no_values}
use Rattle.markdown_text.proofs.tokenizer.Tokenizer.angle_bracket.Goals as goal

pub returns-clause-found : goal.returns-clause-found
returns-clause-found g c =
    let cursor = c.args.cursor in
    let within = cursor.within in
    found_rest cursor.content.now c.rest.result.now no_values cursor.at c.in-Some.found.kind c.in-Some.found.size c.rest.ensures.rest (omega (arith, within)) cursor.cut c.in-Some.ensures.found
