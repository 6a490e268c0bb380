use Rattle.markdown_flow.proofs.block_quote.continues.Goals as goal

pub returns-clause-reads : goal.returns-clause-reads
returns-clause-reads c source from reads = c.in_ok-block_quote_prefix.ensures.reads source from (c.in_ok-columns.ensures.reads source from reads)
