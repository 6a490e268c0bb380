use Rattle.std.proofs.Common.{drop, inl, inr, lit≤, rules, ◌≡◌, ◌≢◌}
use Rattle.std.specs.Prelude.{slice_index}
use Rattle.commonmark_syntax.specs.Syntax.{closing_tag, html_tag, open_tag, processing_instruction}
use Rattle.commonmark_syntax.proofs.HtmlTags.{only_closing, only_instruction, only_open, same_scanned, scanned}
use Rattle.commonmark_syntax.proofs.html_tag.scan.Goals as goal

pub returns-in-47-clause-exact : goal.returns-in-47-clause-exact
returns-in-47-clause-exact c =
    let text = drop c.args.at c.args.content.now in
    let second : slice_index text 1 ≡ 47 = search rules in
    let found = scanned closing_tag c.after-text.result.now text c.scan.result 3 c.after-text.ensures.rest (lit≤ tt) c.scan.ensures.exact c.scan.ensures.most c.scan.ensures.least c.scan.ensures.cut in
    (same_scanned closing_tag html_tag text c.scan.result (λ t r. inr (inl r)) (λ t r. only_closing text t second r) found).exact

pub returns-in-63-clause-exact : goal.returns-in-63-clause-exact
returns-in-63-clause-exact c =
    let text = drop c.args.at c.args.content.now in
    let second : slice_index text 1 ≡ 63 = search rules in
    (same_scanned processing_instruction html_tag text c.scan_instruction.result (λ t r. inr (inr (inr (inl r)))) (λ t r. only_instruction text t second r) c.scan_instruction.ensures.scanned).exact

pub returns-in_default-clause-exact : goal.returns-in_default-clause-exact
returns-in_default-clause-exact c =
    let text = drop c.args.at c.args.content.now in
    let slash : slice_index text 1 ≢ 47 = search rules in
    let question : slice_index text 1 ≢ 63 = search rules in
    let mark : slice_index text 1 ≢ 33 = search rules in
    let found = scanned open_tag c.after-text.result.now text c.scan-in_default.result 2 c.after-text.ensures.rest (lit≤ tt) c.scan-in_default.ensures.exact c.scan-in_default.ensures.most c.scan-in_default.ensures.least c.scan-in_default.ensures.cut in
    (same_scanned open_tag html_tag text c.scan-in_default.result (λ t r. inl r) (λ t r. only_open text t slash question mark r) found).exact
