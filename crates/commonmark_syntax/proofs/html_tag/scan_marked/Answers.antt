use Rattle.std.proofs.Common.{drop, inl, inr, ◌≡◌, ◌≢◌, rules}
use Rattle.std.specs.Prelude.{slice_index}
use Rattle.commonmark_syntax.specs.Syntax.{cdata_section, comment, declaration, html_tag}
use Rattle.commonmark_syntax.proofs.HtmlTags.{only_comment, only_declaration, only_section, same_scanned}
use Rattle.commonmark_syntax.proofs.html_tag.scan_marked.Goals as goal

pub returns-in-45-clause-scanned : goal.returns-in-45-clause-scanned
returns-in-45-clause-scanned c =
    let text = drop c.args.at c.args.content.now in
    let third : slice_index text 2 ≡ 45 = search rules in
    same_scanned comment html_tag text c.scan_comment.result (λ t r. inr (inr (inl r))) (λ t r. only_comment text t c.requires.mark third r) c.scan_comment.ensures.scanned

pub returns-in-91-clause-scanned : goal.returns-in-91-clause-scanned
returns-in-91-clause-scanned c =
    let text = drop c.args.at c.args.content.now in
    let third : slice_index text 2 ≡ 91 = search rules in
    same_scanned cdata_section html_tag text c.scan_cdata.result (λ t r. inr (inr (inr (inr (inr r))))) (λ t r. only_section text t c.requires.mark third r) c.scan_cdata.ensures.scanned

pub returns-in_default-clause-scanned : goal.returns-in_default-clause-scanned
returns-in_default-clause-scanned c =
    let text = drop c.args.at c.args.content.now in
    let hyphen : slice_index text 2 ≢ 45 = search rules in
    let bracket : slice_index text 2 ≢ 91 = search rules in
    same_scanned declaration html_tag text c.scan_declaration.result (λ t r. inr (inr (inr (inr (inl r))))) (λ t r. only_declaration text t c.requires.mark hyphen bracket r) c.scan_declaration.ensures.scanned
