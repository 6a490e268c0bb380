use Rattle.std.proofs.Common.{Bool, List, ap, cond, drop, sym, ◌+◌, ◌∙◌}
use Rattle.std.proofs.lemmas.Bool.{lt-ltb}
use Rattle.std.proofs.lemmas.List.{drop-drop}
use Rattle.markdown_events.specs.Slices.{edge}
use Rattle.markdown_grammar.specs.Document.{Given}
use Rattle.markdown_parts.proofs.slice.Document.hidden_from.Goals as goal

pub returns-then-point-gt0 : goal.returns-then-point-gt0
returns-then-point-gt0 c =
    let flags : List Bool = c.self.inside.hidden.now in
    c.flags_after.ensures ∙ ap (drop 1) c.flags_after-flags.ensures ∙ drop-drop 1 c.args.point.index flags
    ∙ ap (λ (t : Bool). drop (c.args.point.index + cond t 1 0) flags) (sym (lt-ltb 0 c.args.point.vs c.if-point-gt0.true))
    ∙ ap (λ (given : Given). drop (edge c.args.point) given.hidden) c.self.view_is
