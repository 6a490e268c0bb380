-- Pieces, parted in two.
use Rattle.std.proofs.Common.{Bool, List, [], length, refl, subst, sym, true, ◌++◌, ◌==◌, ◌∙◌, ◌∷◌, ◌≡◌}
use Rattle.std.proofs.lemmas.Bool.{eqb-true}
use Rattle.std.specs.Global.{Vec}
use Rattle.std.specs.Prelude.{vec_len}
use Rattle.event_writer.specs.Stages.{Enclosing, item, task}
use Rattle.event_writer.specs.Written.{Written}
use Rattle.markdown_options.specs.declared.Constructs.{Constructs}
use Rattle.markdown_pieces.specs.Spans.{AreOn}
use Rattle.markdown_pieces.specs.Walks.{SaysAll, State, Walks, same}
use Rattle.markdown_pieces.specs.declared.piece.Piece.{Piece}
use Rattle.markdown_text.proofs.Steps.{says_at, says_outer}
use Rattle.markdown_text.proofs.Tasks.{text_stage}
use Rattle.markdown_text.specs.Standings.{IsAt}
use Rattle.markdown_text.specs.Tasks.{IsAtPlace, IsTaskPlace}
use Rattle.markdown_text.specs.declared.document.TaskPlace.{TaskPlace}
use Rattle.markdown_text.specs.declared.document.TaskPlace.TheVariants.{InItem, InParagraph, Nowhere}

-- pieces that lead to a state, parted
pub walks_parted : (s u : State) (ps qs : List Piece) → Walks s (ps ++ qs) u → (t : State) × Walks s ps t × Walks t qs u
walks_parted s u [] qs walks = (s, same s refl, walks)
walks_parted s u (p ∷ ps) qs walks =
    let k = walks_parted walks.1 u ps qs walks.4 in
    (k.0, (walks.0, walks.1, walks.2, walks.3, k.1), k.2)

-- pieces whose constructs are on, parted
pub on_parted : (c : Constructs) (ps qs : List Piece) → AreOn c (ps ++ qs) → AreOn c ps × AreOn c qs
on_parted c [] qs on = (tt, on)
on_parted c (p ∷ ps) qs on = let k = on_parted c ps qs on.1 in ((on.0, k.0), k.1)

-- a place is the same where a state says less
less_place : {R : Type 0} (w : Written R) (place : TaskPlace) (r s : State) → SaysAll r s → IsTaskPlace w place s → IsTaskPlace w place r
less_place w Nowhere r s says at = tt
less_place w InItem r s says at = (at.0, subst (λ (os : List Enclosing). IsAt w (item at.0) os) (says_outer r s says) at.1)
less_place w InParagraph r s says at = (text_stage r s says at.0, subst (λ (os : List Enclosing). IsAt w task os) (says_outer r s says) at.1)

pub less_at_place : {R : Type 0} (w : Written R) (place : TaskPlace) (r s : State) → SaysAll r s → IsAtPlace w place s → IsAtPlace w place r
less_at_place w place r s says at = (says_at w r s says at.0, less_place w place r s says at.1)

-- no piece is left in an empty list
pub none_left : (pieces : Vec Piece) (is_empty : Bool) → is_empty ≡ true → is_empty ≡ (vec_len pieces == 0) → length pieces.items ≡ 0
none_left pieces is_empty none is = sym pieces.ok.0 ∙ eqb-true (vec_len pieces) 0 (sym is ∙ none)
