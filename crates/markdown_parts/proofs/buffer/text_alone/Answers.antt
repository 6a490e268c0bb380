use Rattle.std.proofs.Common.{rules}
use Rattle.markdown_parts.proofs.Readings.{alone_counts, alone_reads}
use Rattle.markdown_parts.proofs.buffer.text_alone.Goals as goal

pub returns-in-Text-clause-text : goal.returns-in-Text-clause-text
returns-in-Text-clause-text c = search (rules, alone_reads)

pub returns-in-Text-clause-count : goal.returns-in-Text-clause-count
returns-in-Text-clause-count c = search (rules, alone_counts)
