-- Pieces that the grammar takes, one after the other.
use Rattle.std.proofs.Common.{Bool, None, false, if◌then◌else◌, ◌≡◌, ◌∷◌, ◌++◌, ◌-◌, List, Some, [], ap, drop, refl, set, slice_range, subst, suc, sym, take, true, zero, ℕ}
use Rattle.std.proofs.lemmas.Option.{same_Some}
use Rattle.event_writer.specs.Stages.{Enclosing, Stage, entered, exited, heading_atx, inlines, skips, takes_line_endings}
use Rattle.markdown_events.specs.Names.{role_of}
use Rattle.markdown_events.specs.declared.event.Name.{Name}
use Rattle.markdown_pieces.specs.Walks.{AreBetween, IsBetween, SaysAll, State, Steps, Walks, after_opening, after_token, at, inside, more, same, stage_after, takes_text}
use Rattle.markdown_pieces.specs.declared.piece.Piece.{Piece}
use Rattle.markdown_pieces.specs.declared.piece.PieceKind.{PieceKind}
use Rattle.markdown_pieces.specs.declared.piece.PieceKind.TheVariants.{BlankLineEnding, BlockQuotePrefix, Enter, Exit, LineEnding, OpeningSequence, Text, Token}

-- of three states the first says what the last does
says_all_on : (u t s : State) → SaysAll t s → SaysAll u t → SaysAll u s
says_all_on u t s (same _ is) says = subst (λ (x : State). SaysAll u x) (sym is) says
says_all_on u t s (more _ r less outer rest) says = more s r less outer (says_all_on u t r rest says)

-- pieces lead to what says less
pub walks_less : (s t u : State) (ps : List Piece) → Walks s ps t → SaysAll u t → Walks s ps u
walks_less s t u [] walks says = says_all_on u t s walks says
walks_less s t u (p ∷ ps) walks says = (walks.0, walks.1, walks.2, walks.3, walks_less walks.1 t u ps walks.4 says)

-- pieces lead from what says more
from_more : (s t u : State) (ps : List Piece) → SaysAll t s → Walks t ps u → Walks s ps u
from_more s t u [] says walks = says_all_on u t s says walks
from_more s t u (p ∷ ps) says walks = (walks.0, walks.1, says_all_on walks.0 t s says walks.2, walks.3, walks.4)

-- pieces after pieces
pub walks_on : (s t u : State) (ps qs : List Piece) → Walks s ps t → Walks t qs u → Walks s (ps ++ qs) u
walks_on s t u [] qs first later = from_more s t u qs first later
walks_on s t u (p ∷ ps) qs first later = (first.0, first.1, first.2, first.3, walks_on first.1 t u ps qs first.4 later)

-- one piece more
pub one_step : (s t u : State) (ps : List Piece) (p : Piece) → Walks s ps t → Steps p.kind t u → Walks s (ps ++ p ∷ []) u
one_step s t u ps p walks step = walks_on s t u ps (p ∷ []) walks (t, u, same t refl, step, same u refl)

-- what stands between lines leaves a state as it is, where line endings may stand
step_between : (k : PieceKind) (s : State) → takes_line_endings s.stage ≡ true → IsBetween k → Steps k s s
step_between LineEnding s takes between = (takes, refl)
step_between BlankLineEnding s takes between = refl
step_between BlockQuotePrefix s takes between = refl
step_between (Token name) s takes between = (ap (λ (n : Name). after_token s.stage n) between, refl)
step_between (Enter name) s takes between = absurd between
step_between (Exit name) s takes between = absurd between
step_between Text s takes between = absurd between
step_between OpeningSequence s takes between = absurd between

walks_between : (s : State) (ps : List Piece) → takes_line_endings s.stage ≡ true → AreBetween ps → Walks s ps s
walks_between s [] takes between = same s refl
walks_between s (p ∷ ps) takes between = (s, s, same s refl, step_between p.kind s takes between.0, walks_between s ps takes between.1)

-- so pieces that stand between lines may come after others
pub between_after : (s t : State) (ps qs : List Piece) → Walks s ps t → takes_line_endings t.stage ≡ true → AreBetween qs → Walks s (ps ++ qs) t
between_after s t ps qs walks takes between = walks_on s t t ps qs walks (walks_between t qs takes between)

-- a part of what stands between lines
between_taken : (n : ℕ) (ps : List Piece) → AreBetween ps → AreBetween (take n ps)
between_taken zero ps between = tt
between_taken (suc n) [] between = tt
between_taken (suc n) (p ∷ ps) between = (between.0, between_taken n ps between.1)

between_dropped : (n : ℕ) (ps : List Piece) → AreBetween ps → AreBetween (drop n ps)
between_dropped zero ps between = between
between_dropped (suc n) [] between = tt
between_dropped (suc n) (p ∷ ps) between = between_dropped n ps between.1

pub between_range : (i j : ℕ) (ps : List Piece) → AreBetween ps → AreBetween (slice_range ps i j)
between_range i j ps between = between_taken (j - i) (drop i ps) (between_dropped i ps between)

-- another piece that stands between lines, at a place
pub between_set : (i : ℕ) (ps : List Piece) (q : Piece) → AreBetween ps → IsBetween q.kind → AreBetween (set ps i q)
between_set i [] q between this = tt
between_set zero (p ∷ ps) q between this = (this, between.1)
between_set (suc i) (p ∷ ps) q between this = (between.0, between_set i ps q between.1 this)

pub between_on : (ps qs : List Piece) → AreBetween ps → AreBetween qs → AreBetween (ps ++ qs)
between_on [] qs first later = later
between_on (p ∷ ps) qs first later = (first.0, between_on ps qs first.1 later)

-- ---- A piece more, by its kind

-- where the signs that open a heading may stand, the heading has begun
opens_heading : (a b : Stage) (outer : List Enclosing) → after_opening a ≡ Some b → (a ≡ heading_atx) × (at b outer ≡ at (inlines true) outer)
opens_heading heading_atx b outer is = (refl, ap (λ (x : Stage). at x outer) (sym (same_Some (inlines true) b is)))
opens_heading _ b outer is = absurd cc

-- a token, or a text
step_after : (k : PieceKind) (a b : Stage) (outer : List Enclosing) → stage_after a k ≡ Some b → Steps k (at a outer) (at b outer)
step_after (Token name) a b outer is = (is, refl)
step_after Text a b outer is = by (takes_text a) refl is
  where
    by : (t : Bool) → takes_text a ≡ t → (if t then Some a else None) ≡ Some b → (takes_text a ≡ true) × (at b outer ≡ at a outer)
    by true takes eq = (takes, ap (λ (x : Stage). at x outer) (sym (same_Some a b eq)))
    by false takes eq = absurd cc
step_after (Enter name) a b outer is = absurd cc
step_after (Exit name) a b outer is = absurd cc
step_after OpeningSequence a b outer is = opens_heading a b outer is
step_after LineEnding a b outer is = absurd cc
step_after BlankLineEnding a b outer is = absurd cc
step_after BlockQuotePrefix a b outer is = absurd cc

pub after_piece : (s : State) (a b : Stage) (outer : List Enclosing) (ps : List Piece) (p : Piece) → Walks s ps (at a outer) → stage_after a p.kind ≡ Some b → Walks s (ps ++ p ∷ []) (at b outer)
after_piece s a b outer ps p walks is = one_step s (at a outer) (at b outer) ps p walks (step_after p.kind a b outer is)

-- the enter of a span
pub after_enter : (s : State) (a b : Stage) (outer : List Enclosing) (ps : List Piece) (p : Piece) (name : Name) → Walks s ps (at a outer) → p.kind ≡ Enter name → entered a (role_of name) ≡ Some b → Walks s (ps ++ p ∷ []) (at b (inside name a outer))
after_enter s a b outer ps p name walks kind is =
    one_step s (at a outer) (at b (inside name a outer)) ps p walks (subst (λ (k : PieceKind). Steps k (at a outer) (at b (inside name a outer))) (sym kind) (is, refl))

-- its exit
pub after_exit : (s : State) (a b c : Stage) (outer : List Enclosing) (ps : List Piece) (p : Piece) (name : Name) → Walks s ps (at a (inside name b outer)) → p.kind ≡ Exit name → exited a b (role_of name) ≡ Some c → Walks s (ps ++ p ∷ []) (at c outer)
after_exit s a b c outer ps p name walks kind is =
    one_step s (at a (inside name b outer)) (at c outer) ps p walks (subst (λ (k : PieceKind). Steps k (at a (inside name b outer)) (at c outer)) (sym kind) (b, is, refl))

-- a stage that says less
pub at_less : (s : State) (a b : Stage) (outer : List Enclosing) (ps : List Piece) → Walks s ps (at a outer) → skips a b ≡ true → Walks s ps (at b outer)
at_less s a b outer ps walks less = walks_less s (at a outer) (at b outer) ps walks (more (at a outer) (at b outer) less refl (same (at b outer) refl))
