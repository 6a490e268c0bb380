use Rattle.std.proofs.Common.{◌≡◌, refl, sym, ◌∙◌, subst, List, ℕ, arith}
use Rattle.std.specs.Io.KnownBytes.{Appends}
use Rattle.mdast_programs.proofs.RunLemmas.{answer_not_three, not_written, status_kept, tree_written}
use Rattle.mdast_programs.proofs.run.run_whole.Goals as goal
use Rattle.mdast_programs.proofs.run.run_whole.Goals.{in-Ok-line, in-Err}

pub returns-clause-tree : goal.returns-clause-tree
returns-clause-tree g c zero = elim c.match-line.branch [
  | in-Ok-line w ↦
      let ended : w.say-status-in-Ok-line.result ≡ 0 = sym w.status-is ∙ zero in
      let wrote = w.say-status-in-Ok-line.ensures.written (λ two. let z : 2 ≡ 0 = sym two ∙ ended in cc) in
      tree_written c.in-Ok.answer _ _ _ _ c.args.doc.now _ (status_kept _ _ c.in-Ok.answer w.status.ensures w.say-status-in-Ok-line.ensures.status ended) c.in-Ok.ensures w.in-Ok-line.ensures
      (subst (λ (t : List ℕ). Appends (g.O.Write.contents c.args.output.now) (g.O.Write.contents c.match-line.output) t) w.as_str.ensures.value (rw (sym w.output-is) at wrote))
  | in-Err w ↦ absurd (not_written w.say-status-in-Err.result w.say-status-in-Err.ensures.status (sym w.status-is ∙ zero))
]

pub returns-clause-answered : goal.returns-clause-answered
returns-clause-answered g c small = refl

pub returns-clause-memory : goal.returns-clause-memory
returns-clause-memory g c three = elim c.match-line.branch [
  | in-Ok-line w ↦ absurd (answer_not_three w.say-status-in-Ok-line.result _ c.in-Ok.answer w.status.ensures w.say-status-in-Ok-line.ensures.status (sym w.status-is ∙ three))
  | in-Err w ↦
      let ended : w.say-status-in-Err.result ≡ 3 = sym w.status-is ∙ three in
      let wrote = w.say-status-in-Err.ensures.written (λ two. let z : 2 ≡ 3 = sym two ∙ ended in cc) in
      rw (sym w.output-is) at wrote
]

pub returns-clause-answer : goal.returns-clause-answer
returns-clause-answer g c = c.in-Ok.ensures
