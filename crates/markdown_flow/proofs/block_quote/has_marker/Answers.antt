use Rattle.std.proofs.Common.{subst}
use Rattle.commonmark_syntax.specs.Blocks.{block_quote_marker}
use Rattle.commonmark_syntax.specs.Language.{IsNotAt}
use Rattle.markdown_flow.proofs.block_quote.has_marker.Goals as goal

pub returns-then-not-is_indented-clause-no : goal.returns-then-not-is_indented-clause-no
returns-then-not-is_indented-clause-no c missing solid = subst (IsNotAt block_quote_marker) c.text.ensures (c.is_at.ensures.no missing)
