use Rattle.public_paths.proofs.infer.columns.Goals as goal

pub gfm_table_align-requires-clause-span : goal.gfm_table_align-requires-clause-span
gfm_table_align-requires-clause-span c = (c.in-Some.field-0, (c.in_ok-span_begins.ensures.span c.in-Some.field-0).0 c.in-Some.is)
