-- The spans that are open, one piece after the other.
use Rattle.std.proofs.Common.{◌≡◌, ◌∷◌, ◌++◌, Bool, IfSome, List, None, Option, Some, [], false, if◌then◌else◌, refl, slice_range, subst, sym, true, ℕ}
use Rattle.event_writer.specs.Stages.{Enclosing, Stage, entered, exited, inlines, skips, takes_line_endings}
use Rattle.markdown_events.specs.Names.{role_of}
use Rattle.markdown_events.specs.declared.event.Name.{Name}
use Rattle.markdown_flow.specs.Outputs.{Opens, Stands}
use Rattle.markdown_flow.specs.declared.output.Output.{Output}
use Rattle.markdown_pieces.proofs.Walks.{after_enter, after_exit, after_piece, at_less, between_after, between_range}
use Rattle.markdown_pieces.specs.Walks.{AreBetween, Walks, at, inside, same, stage_after, stage_after_text, start, takes_text}
use Rattle.markdown_pieces.specs.declared.piece.Piece.{Piece}
use Rattle.markdown_pieces.specs.declared.piece.PieceKind.TheVariants.{Enter, Exit}

-- no piece is there
pub none_open : (items : List Piece) → items ≡ [] → Walks start items start
none_open items none = subst (λ (ps : List Piece). Walks start ps start) (sym none) (same start refl)

-- more that stands between lines is settled
pub between_settled : (pieces items more : List Piece) (a : Stage) (outer : List Enclosing) → Walks start pieces (at a outer) → items ≡ pieces ++ more → takes_line_endings a ≡ true → AreBetween more → Walks start items (at a outer)
between_settled pieces items more a outer opens is takes between = subst (λ (ps : List Piece). Walks start ps (at a outer)) (sym is) (between_after start (at a outer) pieces more opens takes between)

-- some of what is held is
pub held_settled : (output : Output) (items held : List Piece) (i j : ℕ) (a : Stage) (outer : List Enclosing) → Stands output → Opens output (at a outer) → held ≡ output.held.items → items ≡ output.pieces.items ++ slice_range held i j → takes_line_endings a ≡ true → Walks start items (at a outer)
held_settled output items held i j a outer stands opens held_is is takes =
    between_settled output.pieces.items items (slice_range held i j) a outer opens is takes (between_range i j held (subst AreBetween (sym held_is) stands.between))

-- a span begins
pub entered_on : (output : Output) (items : List Piece) (p : Piece) (name : Name) (a : Stage) (outer : List Enclosing) → Opens output (at a outer) → items ≡ output.pieces.items ++ p ∷ [] → p.kind ≡ Enter name
    → IfSome (entered a (role_of name)) (λ b. Walks start items (at b (inside name a outer)))
entered_on output items p name a outer opens is kind = by (entered a (role_of name)) refl
  where
    by : (o : Option Stage) → entered a (role_of name) ≡ o → IfSome o (λ b. Walks start items (at b (inside name a outer)))
    by None e = tt
    by (Some b) e = subst (λ (ps : List Piece). Walks start ps (at b (inside name a outer))) (sym is) (after_enter start a b outer output.pieces.items p name opens kind e)

-- a span ends
pub exited_on : (output : Output) (items : List Piece) (p : Piece) (name : Name) (a b : Stage) (outer : List Enclosing) → Opens output (at a (inside name b outer)) → items ≡ output.pieces.items ++ p ∷ [] → p.kind ≡ Exit name
    → IfSome (exited a b (role_of name)) (λ c. Walks start items (at c outer))
exited_on output items p name a b outer opens is kind = by (exited a b (role_of name)) refl
  where
    by : (o : Option Stage) → exited a b (role_of name) ≡ o → IfSome o (λ c. Walks start items (at c outer))
    by None e = tt
    by (Some c) e = subst (λ (ps : List Piece). Walks start ps (at c outer)) (sym is) (after_exit start a b c outer output.pieces.items p name opens kind e)

-- a token or a text stands
pub pushed_on : (output : Output) (items : List Piece) (p : Piece) (a : Stage) (outer : List Enclosing) → Opens output (at a outer) → items ≡ output.pieces.items ++ p ∷ [] → IfSome (stage_after a p.kind) (λ b. Walks start items (at b outer))
pushed_on output items p a outer opens is = by (stage_after a p.kind) refl
  where
    by : (o : Option Stage) → stage_after a p.kind ≡ o → IfSome o (λ b. Walks start items (at b outer))
    by None e = tt
    by (Some b) e = subst (λ (ps : List Piece). Walks start ps (at b outer)) (sym is) (after_piece start a b outer output.pieces.items p opens e)

-- what holds of a stage that there is
pub some_stage : (o : Option Stage) (b : Stage) (P : Stage → Type 0) → o ≡ Some b → IfSome o P → P b
some_stage o b P e holds = subst (λ (x : Option Stage). IfSome x P) e holds

-- a stage that says less
pub less_in_place : (output : Output) (a : Stage) (outer : List Enclosing) (o : Option Stage) → Opens output (at a outer) → IfSome o (λ b. skips a b ≡ true → Opens output (at b outer))
less_in_place output a outer None opens = tt
less_in_place output a outer (Some b) opens = λ less. at_less start a b outer output.pieces.items opens less

-- ---- A text in a span

-- where a text may stand, inlines may
is_inlines : (b : Stage) → takes_text b ≡ true → (h : Bool) × (b ≡ inlines h)
is_inlines (inlines h) t = (h, refl)
is_inlines _ t = absurd cc

-- what leads through the inlines of a span leads over the span
pub around_text : (name : Name) (a : Stage) (o : Option Stage) (P Q : Stage → Type 0) → IfSome o P → ((h : Bool) → P (inlines h) → IfSome (exited (inlines h) a (role_of name)) Q) → IfSome (stage_after_text a name o) Q
around_text name a None P Q first through = tt
around_text name a (Some b) P Q first through = by (takes_text b) refl
  where
    by : (t : Bool) → takes_text b ≡ t → IfSome (if t then exited b a (role_of name) else None) Q
    by false e = tt
    by true e =
        let h = is_inlines b e in
        subst (λ (x : Stage). IfSome (exited x a (role_of name)) Q) (sym h.1) (through h.0 (subst P h.1 first))

-- what holds of a stage that there is may say less
pub some_less : (o : Option Stage) (P Q : Stage → Type 0) → ((b : Stage) → P b → Q b) → IfSome o P → IfSome o Q
some_less None P Q less holds = tt
some_less (Some b) P Q less holds = less b holds
