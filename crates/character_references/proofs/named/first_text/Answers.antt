use Rattle.character_references.proofs.NamedLemmas.{not_first}
use Rattle.character_references.proofs.named.first_text.Goals as goal

pub returns-then-not-starts_with : goal.returns-then-not-starts_with
returns-then-not-starts_with c = not_first c.args.name.now c.args.lines.now c.if-not-starts_with.ensures.cases
