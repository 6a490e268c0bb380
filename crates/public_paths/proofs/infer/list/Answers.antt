use Rattle.public_paths.proofs.infer.list.Goals as goal

pub list_loose-requires-clause-span : goal.list_loose-requires-clause-span
list_loose-requires-clause-span c = (c.in-Some.field-0, (c.in_ok-span_begins.ensures.span c.in-Some.field-0).0 c.in-Some.is)
