use Rattle.std.proofs.Common.{◌≡◌, ℕ, List, sym, subst, ◌∙◌, arith}
use Rattle.std.specs.Io.KnownBytes.{Appends}
use Rattle.mdast_programs.proofs.CheckLemmas.{closed_written, open_written, refused_written, status_said}
use Rattle.mdast_programs.proofs.check.run_check.Goals as goal

pub returns-in-Ok-checked-clause-closed : goal.returns-in-Ok-checked-clause-closed
returns-in-Ok-checked-clause-closed g c zero =
    let wrote = c.say-in-Ok-checked.ensures.written (λ two. let z : 2 ≡ 0 = sym two ∙ zero in cc) in
    closed_written c.in-Ok.answer _ _ _ _ c.args.doc.now _ _ (status_said _ _ 0 c.say-in-Ok-checked.ensures.status zero (λ z. cc)) c.in-Ok.ensures c.in-Ok-checked.ensures
    (subst (λ (t : List ℕ). Appends (g.O.Write.contents c.args.output.now) (g.O.Write.contents c.say-in-Ok-checked.new.output) t) c.as_str.ensures.value wrote)

pub returns-in-Ok-checked-clause-opens : goal.returns-in-Ok-checked-clause-opens
returns-in-Ok-checked-clause-opens g c four =
    let wrote = c.say-in-Ok-checked.ensures.written (λ two. let z : 2 ≡ 4 = sym two ∙ four in cc) in
    open_written c.in-Ok.answer _ _ _ _ c.args.doc.now _ _ (status_said _ _ 4 c.say-in-Ok-checked.ensures.status four (λ z. cc)) c.in-Ok.ensures c.in-Ok-checked.ensures
    (subst (λ (t : List ℕ). Appends (g.O.Write.contents c.args.output.now) (g.O.Write.contents c.say-in-Ok-checked.new.output) t) c.as_str.ensures.value wrote)

pub returns-in-Ok-checked-clause-refused : goal.returns-in-Ok-checked-clause-refused
returns-in-Ok-checked-clause-refused g c one =
    let wrote = c.say-in-Ok-checked.ensures.written (λ two. let z : 2 ≡ 1 = sym two ∙ one in cc) in
    refused_written c.in-Ok.answer _ _ _ _ c.args.doc.now _ _ (status_said _ _ 1 c.say-in-Ok-checked.ensures.status one (λ z. cc)) c.in-Ok.ensures c.in-Ok-checked.ensures
    (subst (λ (t : List ℕ). Appends (g.O.Write.contents c.args.output.now) (g.O.Write.contents c.say-in-Ok-checked.new.output) t) c.as_str.ensures.value wrote)
