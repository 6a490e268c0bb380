use Rattle.std.proofs.Common.{[], ◌++◌, ◌∙◌, ◌∷◌}
use Rattle.std.proofs.lemmas.List.{append_assoc}
use Rattle.markdown_events.specs.Forest.{enter, exit}
use Rattle.markdown_tree.proofs.history.Passed.add_token.Goals as goal

pub returns : goal.returns
returns c =
    let first = enter c.args.name c.args.start in
    let second = exit c.args.name c.args.end in
    c.add_exit.ensures ∙ (λ i. c.add_enter.ensures i ++ second ∷ []) ∙ append_assoc c.args.self.now (first ∷ []) (second ∷ [])
