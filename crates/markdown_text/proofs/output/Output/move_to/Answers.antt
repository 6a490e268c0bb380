use Rattle.std.proofs.Common.{◌≤◌, ◌+◌, ◌-◌, ap, subst, sym, ℕ, ◌∙◌}
use Rattle.event_writer.specs.Written.{Written}
use Rattle.markdown_events.specs.declared.event.Point.{Point}
use Rattle.markdown_text.proofs.Outputs.{put_fits}
use Rattle.markdown_text.proofs.output.Output.move_to.Goals as goal

pub later-to-requires : goal.later-to-requires
later-to-requires g c =
    subst (λ (n : ℕ). n + (c.args.end - c.args.self.now.at) ≤ c.args.self.now.lines.end) (sym (ap (λ (p : Point). p.index) c.cursor.ensures.here ∙ ap (λ (w : Written _). w.cursor.index) c.deref.ensures))
    (put_fits c.args.self.now c.args.end c.requires.stands c.requires.part)
