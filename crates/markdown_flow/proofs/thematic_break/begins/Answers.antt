use Rattle.markdown_flow.proofs.Tails.{same_break, text_solid}
use Rattle.markdown_flow.proofs.thematic_break.begins.Goals as goal

pub returns-then-constructs-clause-exact : goal.returns-then-constructs-clause-exact
returns-then-constructs-clause-exact c on =
    let line = c.args.line.now in
    same_break c.is_at.result c.is_in_tail.result _ _ c.text.ensures c.is_at.ensures.exact c.is_in_tail.ensures.exact (text_solid line.rest.now line.text.now line.text_rests)
