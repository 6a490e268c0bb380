-- Pieces whose constructs are on, one after the other.
use Rattle.std.proofs.Common.{◌≡◌, ◌∷◌, ◌++◌, List, [], ap, subst, sym}
use Rattle.markdown_options.specs.Spans.{is_on}
use Rattle.markdown_options.specs.declared.Constructs.{Constructs}
use Rattle.markdown_pieces.specs.Spans.{AreOn, IsOn}
use Rattle.markdown_pieces.specs.Walks.{AreBetween, IsBetween}
use Rattle.markdown_pieces.specs.declared.piece.Piece.{Piece}
use Rattle.markdown_pieces.specs.declared.piece.PieceKind.{PieceKind}
use Rattle.markdown_pieces.specs.declared.piece.PieceKind.TheVariants.{BlankLineEnding, BlockQuotePrefix, Enter, Exit, LineEnding, OpeningSequence, Text, Token}

-- pieces after pieces
on_after : (c : Constructs) (ps qs : List Piece) → AreOn c ps → AreOn c qs → AreOn c (ps ++ qs)
on_after c [] qs first later = later
on_after c (p ∷ ps) qs first later = (first.0, on_after c ps qs first.1 later)

-- a piece more
pub on_with : (c : Constructs) (items ps : List Piece) (p : Piece) → items ≡ ps ++ p ∷ [] → AreOn c ps → IsOn c p.kind → AreOn c items
on_with c items ps p is first this = subst (AreOn c) (sym is) (on_after c ps (p ∷ []) first (this, tt))

-- what stands between lines is of no construct that may be off
between_on : (c : Constructs) (k : PieceKind) → IsBetween k → IsOn c k
between_on c LineEnding between = tt
between_on c BlankLineEnding between = tt
between_on c BlockQuotePrefix between = tt
between_on c (Token name) between = ap (is_on c) between
between_on c (Enter name) between = absurd between
between_on c (Exit name) between = absurd between
between_on c Text between = absurd between
between_on c OpeningSequence between = absurd between

are_between_on : (c : Constructs) (ps : List Piece) → AreBetween ps → AreOn c ps
are_between_on c [] between = tt
are_between_on c (p ∷ ps) between = (between_on c p.kind between.0, are_between_on c ps between.1)

-- so it may come after other pieces
pub on_with_between : (c : Constructs) (items ps qs : List Piece) → items ≡ ps ++ qs → AreOn c ps → AreBetween qs → AreOn c items
on_with_between c items ps qs is first between = subst (AreOn c) (sym is) (on_after c ps qs first (are_between_on c qs between))
