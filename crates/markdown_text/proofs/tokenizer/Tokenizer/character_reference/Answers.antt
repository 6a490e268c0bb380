use Rattle.std.proofs.Common.{Option, arith, false, subst}
use Rattle.std.specs.Prelude.{IfSome}
use Rattle.markdown_text.proofs.Tokens.{found_rest}
use Rattle.markdown_text.specs.Texts.{text_of}
use Rattle.markdown_text.specs.Tokens.{IsFound}
use Rattle.markdown_text.specs.declared.token.Found.{Found}
use Rattle.markdown_text.proofs.tokenizer.Tokenizer.character_reference.Goals as goal

pub returns-in-Some-clause-found : goal.returns-in-Some-clause-found
returns-in-Some-clause-found g c =
    let cursor = c.args.cursor in
    let rest = c.rest.result.now in
    let within = cursor.within in
    let decode = g.R.References.text c.args.self.now.source.now.reading.now.references.now in
    let found = subst (λ (o : Option Found). IfSome o (λ (f : Found). IsFound (text_of rest decode false) f.kind 0 f.size)) c.in-Some.is c.in_ok-found.ensures.found in
    found_rest cursor.content.now rest decode cursor.at c.in-Some.found.kind c.in-Some.found.size c.rest.ensures.rest (omega (arith, within)) cursor.cut found
