use Rattle.std.proofs.Common.{arith, drop, lit≤, refl}
use Rattle.std.specs.Prelude.{codes}
use Rattle.commonmark_syntax.specs.Syntax.{processing_instruction, word}
use Rattle.commonmark_syntax.proofs.HtmlTags.{begun, none_through, missing_through, none_scanned, nothing_found, scanned}
use Rattle.commonmark_syntax.proofs.html_tag.scan_instruction.Goals as goal

pub returns-then-missing-at-clause-scanned : goal.returns-then-missing-at-clause-scanned
returns-then-missing-at-clause-scanned c =
    let text = c.args.content.now in
    none_scanned processing_instruction (drop c.args.at text) (λ t reads. none_through (codes "<?") (codes "?>") text (drop c.args.at text) t c.args.missing.now c.args.at refl c.requires (omega (arith, c.if-missing-at.true)) reads)

pub returns-then-is_some-clause-missing : goal.returns-then-is_some-clause-missing
returns-then-is_some-clause-missing c =
    let text = c.after-text.result.now in
    let start = begun (word (codes "<?")) text (λ rest. rest.now) c.past_word.result c.is_some.result c.past_word.ensures c.is_some.ensures c.if-is_some.true in
    missing_through (codes "<?") (codes "?>") c.args.content.now text start.0 c.args.at c.after-text.ensures.rest (nothing_found processing_instruction text c.scan-found.result c.is_none.result c.scan-found.ensures.exact c.is_none.ensures c.if-is_none.true) start.1

pub returns-then-is_some-clause-scanned : goal.returns-then-is_some-clause-scanned
returns-then-is_some-clause-scanned c = scanned processing_instruction c.after-text.result.now _ c.scan-found.result 3 c.after-text.ensures.rest (lit≤ tt) c.scan-found.ensures.exact c.scan-found.ensures.most c.scan-found.ensures.least c.scan-found.ensures.cut
