-- The pieces of contents, and their bytes.
use Rattle.std.proofs.Common.{◌≡◌, ◌≢◌, ◌<◌, ◌≤◌, ◌+◌, ◌-◌, ◌++◌, ◌∷◌, ◌∙◌, List, [], ℕ, ap, append_assoc, arith, drop, get_or, length, refl, slice_range, subst, suc, sym, take}
use Rattle.std.proofs.lemmas.List.{drop_more, take-append-drop, take_more}
use Rattle.event_writer.specs.Calls.{CanReach}
use Rattle.markdown_events.specs.declared.event.Name.TheVariants.{SpaceOrTab}
use Rattle.markdown_pieces.proofs.Tilings.{ends, parted}
use Rattle.markdown_options.specs.declared.Constructs.{Constructs}
use Rattle.markdown_pieces.specs.Spans.{IsOn}
use Rattle.markdown_pieces.specs.Tilings.{Goes, Spot, Tiles, end_from, end_of, point}
use Rattle.markdown_pieces.specs.Walks.{State, Steps}
use Rattle.markdown_pieces.specs.declared.piece.Piece.{Piece}
use Rattle.markdown_pieces.specs.declared.piece.PieceKind.{PieceKind}
use Rattle.markdown_pieces.specs.declared.piece.PieceKind.TheVariants.{BlankLineEnding, BlockQuotePrefix, Enter, Exit, LineEnding, OpeningSequence, Text, Token}
use Rattle.markdown_text.proofs.Ranges.{ranges_join}
use Rattle.markdown_text.specs.Contents.{AreLines, IsContent, IsLeft, joined, next_place, piece_bytes, place_after, whole}
use Rattle.markdown_text.specs.declared.content.Place.{Place}
use Rattle.markdown_text.specs.declared.content.Place.TheVariants.{AfterText, BeforeText, Outside}

-- one piece more
pub place_after-snoc : (at : Place) (ps : List Piece) (p : Piece) → place_after at (ps ++ p ∷ []) ≡ next_place (place_after at ps) p.kind
place_after-snoc at [] p = refl
place_after-snoc at (q ∷ ps) p = place_after-snoc (next_place at q.kind) ps p

-- a content that has ended does not go on
pub outside : (ps : List Piece) → place_after Outside ps ≡ Outside
outside [] = refl
outside (p ∷ ps) = outside ps

begins : (k : PieceKind) (ps : List Piece) → place_after (next_place AfterText k) ps ≡ AfterText → (k ≡ LineEnding) × (place_after BeforeText ps ≡ AfterText)
begins (Enter name) ps h = absurd (cc (outside ps))
begins (Exit name) ps h = absurd (cc (outside ps))
begins (Token name) ps h = absurd (cc (outside ps))
begins LineEnding ps h = (refl, h)
begins BlankLineEnding ps h = absurd (cc (outside ps))
begins Text ps h = absurd (cc (outside ps))
begins OpeningSequence ps h = absurd (cc (outside ps))
begins BlockQuotePrefix ps h = absurd (cc (outside ps))

-- what comes after a text begins with a line ending
pub lines_begin : (p : Piece) (ps : List Piece) → AreLines (p ∷ ps) → (p.kind ≡ LineEnding) × (place_after BeforeText ps ≡ AfterText)
lines_begin p ps h = begins p.kind ps h

-- the same along a list
pub place_more : (at : Place) (ps : List Piece) (i : ℕ) (d : Piece) → i < length ps → place_after at (take (i + 1) ps) ≡ next_place (place_after at (take i ps)) (get_or ps i d).kind
place_more at ps i d h = ap (place_after at) (take_more ps i d h) ∙ place_after-snoc at (take i ps) (get_or ps i d)

-- the bytes of one piece more that stand as they are
pub joined_more : (document : List ℕ) (start at i : ℕ) (ps : List Piece) (d : Piece) → i < length ps → start ≤ at → at ≤ (get_or ps i d).end → slice_range document at (get_or ps i d).end ≡ piece_bytes document (get_or ps i d).kind at (get_or ps i d).end
    → slice_range document start (get_or ps i d).end ++ joined document (get_or ps i d).end (drop (i + 1) ps) ≡ slice_range document start at ++ joined document at (drop i ps)
joined_more document start at i ps d within order more same =
    let p = get_or ps i d in
    let rest = joined document p.end (drop (i + 1) ps) in
    sym (ap (λ (qs : List Piece). slice_range document start at ++ joined document at qs) (drop_more ps i d within)
    ∙ ap (λ (bs : List ℕ). slice_range document start at ++ (bs ++ rest)) (sym same)
    ∙ sym (append_assoc (slice_range document start at) (slice_range document at p.end) rest)
    ∙ ap (λ (bs : List ℕ). bs ++ rest) (ranges_join document start at p.end order more))

-- the same, by the places so far
pub place_step : (xs ys : List Piece) (i : ℕ) (d : Piece) (at now : Place) → ys ≡ xs → i < length ys → at ≡ place_after AfterText (take i xs) → now ≡ next_place at (get_or ys i d).kind → now ≡ place_after AfterText (take (i + 1) xs)
place_step xs ys i d at now same within before is =
    is ∙ ap (λ (a : Place). next_place a (get_or ys i d).kind) before ∙ ap (λ (zs : List Piece). next_place (place_after AfterText (take i zs)) (get_or ys i d).kind) (sym same) ∙ sym (place_more AfterText ys i d within) ∙ ap (λ (zs : List Piece). place_after AfterText (take (i + 1) zs)) same

-- a content may end after a text
pub ended_at : (xs : List Piece) (n i : ℕ) (now : Place) → n ≡ i + 1 → now ≡ place_after AfterText (take (i + 1) xs) → now ≡ AfterText → AreLines (take n xs)
ended_at xs n i now same is at = ap (λ (k : ℕ). place_after AfterText (take k xs)) same ∙ sym is ∙ at

-- ---- What is left of a content

-- at a text
pub text_left : (document : List ℕ) (from end : Spot) (p : Piece) (ps : List Piece) → Tiles document from (p ∷ ps) end → IsContent (p ∷ ps) → p.kind ≡ Text → IsLeft document from p.end ps × (end_from (whole p.end) ps ≡ end)
text_left document from end p ps tiles content is =
    let goes : Goes document Text from (end_of p) = subst (λ (k : PieceKind). Goes document k from (end_of p)) is tiles.0 in
    let at : end_of p ≡ whole p.end = ap (λ (n : ℕ). record { offset = p.end; virtual_spaces = n }) goes.whole in
    let later : Tiles document (whole p.end) ps end = subst (λ (s : Spot). Tiles document s ps end) at tiles.1 in
    let last : end_from (whole p.end) ps ≡ end = ends document (whole p.end) end ps later in (
      record {
        reach = subst (λ (n : ℕ). CanReach document (point from) p.end n) goes.whole goes.reaches;
        cut = goes.cut;
        lines = subst (λ (k : PieceKind). place_after (next_place BeforeText k) ps ≡ AfterText) is content;
        tiles = subst (λ (s : Spot). Tiles document (whole p.end) ps s) (sym last) later;
      },
      last,
    )

between : (k : PieceKind) (document : List ℕ) (from to : ℕ) (ps : List Piece) → place_after (next_place BeforeText k) ps ≡ AfterText → k ≢ Text → IsContent ps × (piece_bytes document k from to ≡ [])
between (Enter name) document from to ps h other = absurd (cc (outside ps))
between (Exit name) document from to ps h other = absurd (cc (outside ps))
between (Token SpaceOrTab) document from to ps h other = (h, refl)
between (Token name) document from to ps h other = absurd (cc (outside ps))
between OpeningSequence document from to ps h other = absurd (cc (outside ps))
between LineEnding document from to ps h other = absurd (cc (outside ps))
between BlankLineEnding document from to ps h other = absurd (cc (outside ps))
between Text document from to ps h other = absurd (other refl)
between BlockQuotePrefix document from to ps h other = (h, refl)

-- after a piece before a text
pub between_left : (document : List ℕ) (from : ℕ) (p : Piece) (ps : List Piece) → IsContent (p ∷ ps) → p.kind ≢ Text → IsContent ps × (joined document from (p ∷ ps) ≡ joined document p.end ps)
between_left document from p ps h other = let b = between p.kind document from p.end ps h other in (b.0, ap (λ (bs : List ℕ). bs ++ joined document p.end ps) b.1)

-- ---- Pieces of a document

-- a text, and what may come after it, are a content
pub content_taken : (rest : List Piece) (p : Piece) (ps : List Piece) (size : ℕ) → rest ≡ p ∷ ps → p.kind ≡ Text → 0 < size → AreLines (take (size - 1) (drop 1 rest)) → IsContent (take size rest)
content_taken rest p ps size is text some lines =
    let e : size ≡ suc (size - 1) = omega arith in
    let f : take size rest ≡ p ∷ take (size - 1) ps = ap (λ (n : ℕ). take n rest) e ∙ ap (λ (qs : List Piece). take (suc (size - 1)) qs) is in
    let g : AreLines (take (size - 1) ps) = subst (λ (qs : List Piece). AreLines (take (size - 1) (drop 1 qs))) is lines in
    subst IsContent (sym f) (subst (λ (k : PieceKind). place_after (next_place BeforeText k) (take (size - 1) ps) ≡ AfterText) (sym text) g)

-- the first pieces tile, and so do those after them
pub tiles_parted : (document : List ℕ) (from end : Spot) (rest : List Piece) (size : ℕ) → Tiles document from rest end → Tiles document from (take size rest) (end_from from (take size rest)) × Tiles document (end_from from (take size rest)) (drop size rest) end
tiles_parted document from end rest size tiles = parted document from end (take size rest) (drop size rest) (subst (λ (ps : List Piece). Tiles document from ps end) (sym (take-append-drop size rest)) tiles)

-- ---- What stands between the texts of a content

-- a piece before a text leaves each state as it is, and is no text
between_steps : (k : PieceKind) (ps : List Piece) (s : State) → place_after (next_place BeforeText k) ps ≡ AfterText → k ≢ Text → Steps k s s
between_steps (Enter name) ps s h other = absurd (cc (outside ps))
between_steps (Exit name) ps s h other = absurd (cc (outside ps))
between_steps (Token SpaceOrTab) ps s h other = (refl, refl)
between_steps (Token name) ps s h other = absurd (cc (outside ps))
between_steps OpeningSequence ps s h other = absurd (cc (outside ps))
between_steps LineEnding ps s h other = absurd (cc (outside ps))
between_steps BlankLineEnding ps s h other = absurd (cc (outside ps))
between_steps Text ps s h other = absurd (other refl)
between_steps BlockQuotePrefix ps s h other = refl

pub between_step : (p : Piece) (ps : List Piece) (s : State) → IsContent (p ∷ ps) → p.kind ≢ Text → Steps p.kind s s
between_step p ps s h other = between_steps p.kind ps s h other

-- its construct is on: it is of none
between_on_as : (c : Constructs) (k : PieceKind) (ps : List Piece) → place_after (next_place BeforeText k) ps ≡ AfterText → IsOn c k
between_on_as c (Enter name) ps h = absurd (cc (outside ps))
between_on_as c (Token SpaceOrTab) ps h = refl
between_on_as c (Token name) ps h = absurd (cc (outside ps))
between_on_as c _ ps h = tt

pub between_on : (c : Constructs) (p : Piece) (ps : List Piece) → IsContent (p ∷ ps) → IsOn c p.kind
between_on c p ps h = between_on_as c p.kind ps h
