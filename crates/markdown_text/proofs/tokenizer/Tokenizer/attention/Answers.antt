use Rattle.std.proofs.Common.{ap, drop, rules, subst, sym, ◌+◌, ◌∙◌}
use Rattle.std.proofs.lemmas.List.{drop-drop}
use Rattle.commonmark_syntax.specs.Inlines.{delimiter_run}
use Rattle.commonmark_syntax.specs.Language.{Leaves}
use Rattle.markdown_attention.specs.Runs.{view}
use Rattle.markdown_text.proofs.AttentionRuns.{run_of, wait_more, wait_text}
use Rattle.markdown_text.specs.Cursors.{byte_at}
use Rattle.markdown_text.proofs.tokenizer.Tokenizer.attention.Goals as goal

pub returns-clause-wait : goal.returns-clause-wait
returns-clause-wait g c =
    let cursor = c.args.cursor in
    let self = c.args.self.now in
    let size = c.run_length-size in
    let run = c.run_at in
    wait_more self.source.now.reading.now.options cursor.content.now self.tokens.items cursor.at c.token.result self.attention c.push.new.self run.result c.requires.wait c.in_ok-push.ensures.runs c.push.ensures.delimiters c.token.ensures.kind (search rules)
    (λ t start end. run_of cursor.content.now cursor.at size.result (view run.result) size.ensures.least size.ensures.exact run.ensures.whole run.ensures.flanked t start (end ∙ ap (λ n. cursor.at + n) c.token.ensures.size))

pub returns-then-not-is_delimiter_run-clause-wait : goal.returns-then-not-is_delimiter_run-clause-wait
returns-then-not-is_delimiter_run-clause-wait g c =
    let cursor = c.args.cursor in
    let self = c.args.self.now in
    let bytes = cursor.content.now in
    let size = c.run_length-size in
    let all = subst (Leaves (delimiter_run (byte_at cursor)) (drop cursor.at bytes)) (drop-drop size.result cursor.at bytes ∙ ap (λ n. drop (cursor.at + n) bytes) (sym c.data.ensures.size)) size.ensures.exact in
    wait_text self.source.now.reading.now.options bytes self.tokens.items cursor.at c.data.result self.attention c.requires.wait c.data.ensures.kind all (search rules)
