use Rattle.markdown_flow.proofs.block_quote.begins.Goals as goal

pub returns-then-constructs-clause-no : goal.returns-then-constructs-clause-no
returns-then-constructs-clause-no c missing on solid = c.has_marker.ensures.no missing solid
