use Rattle.std.proofs.Common.{List, ℕ, Option, Bor, sym, ap, ◌∙◌}
use Rattle.mdast_check.specs.Known.{has, with_one}
use Rattle.mdast_check.proofs.Gathering.{put_one}
use Rattle.mdast_check.proofs.references.put.Goals as goal

pub returns-in_ok-insert : goal.returns-in_ok-insert
returns-in_ok-insert c = λ other.
    put_one c.in-Some.text c.args.set.now c.insert.new.self c.in_ok-insert.ensures.updates other
    ∙ ap (λ (o : Option (Bor (List ℕ))). with_one o other (has c.args.set.now other)) (sym c.in-Some.is)
