-- Pieces of a document whose constructs are on.
use Rattle.std.specs.Prelude.{List, [], true, ◌∷◌, ◌≡◌}
use Rattle.markdown_options.specs.Spans.{is_on}
use Rattle.markdown_options.specs.declared.Constructs.{Constructs}
use Rattle.markdown_pieces.specs.declared.piece.Piece.{Piece}
use Rattle.markdown_pieces.specs.declared.piece.PieceKind.{PieceKind}
use Rattle.markdown_pieces.specs.declared.piece.PieceKind.TheVariants.{Enter, Token}

-- a piece of this kind begins a span whose construct is on, or begins no span
abbrev pub IsOn : Constructs → PieceKind → Type 0
IsOn c (Enter name) = is_on c name ≡ true
IsOn c (Token name) = is_on c name ≡ true
IsOn c _ = Unit {0}

-- each piece begins a span whose construct is on, or begins no span
abbrev pub AreOn : Constructs → List Piece → Type 0
AreOn c [] = Unit {0}
AreOn c (p ∷ ps) = IsOn c p.kind × AreOn c ps

-- a piece of this kind belongs to no construct that may be off
abbrev pub IsAlwaysOn : PieceKind → Type 0
IsAlwaysOn kind = (c : Constructs) → IsOn c kind
