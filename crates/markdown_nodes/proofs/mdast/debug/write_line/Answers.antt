use Rattle.std.proofs.Common.{◌≡◌, ℕ, false, refl, true}
use Rattle.std.proofs.Output.{has_written_of_eq}
use Rattle.markdown_nodes.proofs.Showing.{break_text}
use Rattle.markdown_nodes.proofs.mdast.debug.write_line.Goals as goal

pub returns-in_default : goal.returns-in_default
returns-in_default g c =
    let none = λ (character : ℕ). false in
    (none, λ plain ok. has_written_of_eq _ _ _ _ _ (break_text none c.args.node.now (c.in_default.ensures.bare refl) (c.in_default.ensures.kind refl)) (c.write_break.ensures plain ok))

pub returns-in_default-escapes_of : goal.returns-in_default-escapes_of
returns-in_default-escapes_of g c = (λ character. false, λ plain ok. absurd (let never : false ≡ true = ok in cc))
