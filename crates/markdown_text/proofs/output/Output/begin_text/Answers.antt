use Rattle.std.proofs.Common.{ap, arith, refl, ◌∙◌}
use Rattle.event_writer.specs.Written.{Written}
use Rattle.markdown_events.specs.declared.event.Point.{Point}
use Rattle.markdown_text.proofs.Blanks.{enter_writes, two_on_ok}
use Rattle.markdown_text.proofs.Outputs.{moved_within}
use Rattle.markdown_text.specs.Outputs.{constructs_of}
use Rattle.markdown_text.proofs.output.Output.begin_text.Goals as goal

pub returns-clause-writes : goal.returns-clause-writes
returns-clause-writes g c =
    let o = c.args.self.now in
    let e = c.enter_tab.ensures in
    let is = c.deref_mut.ensures.value in
    let here = ap (λ (p : Point). p.index) c.cursor.ensures.here ∙ ap (λ (w : Written _). w.cursor.index) c.deref.ensures in
    let less = c.if-cursor-self.false in
    two_on_ok c.enter_tab.result (λ index within. enter_writes o (record o { writer = record o.writer { value = c.enter_tab.new.writer } }) c.requires.stands (omega (arith, here, less)) refl refl refl refl (e.given ∙ ap (λ (w : Written _). w.given) is) (index ∙ ap (λ (w : Written _). w.cursor.index) is) refl refl c.requires.none_waits within)
    e.index (e.within (constructs_of o) (moved_within o c.deref_mut.result.now is c.requires.stands))
