-- Pieces one after the other.
use Rattle.std.proofs.Common.{◌≡◌, ◌∷◌, ◌++◌, ◌∙◌, ◌⊎◌, ◌-◌, ◌<◌, List, [], ℕ, Some, ap, arith, drop, get_or, inl, inr, length, refl, set, slice_get, subst, suc, sym, zero}
use mathlib.Core.Path.{transport}
use Rattle.commonmark_syntax.specs.Cuts.{IsCut}
use Rattle.markdown_events.specs.declared.event.Name.{Name}
use Rattle.markdown_events.specs.declared.event.Name.TheVariants.{ByteOrderMark, CharacterReferenceValue, HeadingSetextUnderlineSequence, ListItemValue}
use Rattle.markdown_pieces.specs.Tilings.{EndsCharacter, Goes, HasValue, IsEnding, IsPlain, Spot, Tiles, end_from, end_of}
use Rattle.markdown_pieces.specs.declared.piece.Piece.{Piece}
use Rattle.markdown_pieces.specs.declared.piece.PieceKind.{PieceKind}
use Rattle.markdown_pieces.specs.declared.piece.PieceKind.TheVariants.{BlankLineEnding, BlockQuotePrefix, Enter, Exit, LineEnding, OpeningSequence, Text, Token}

-- pieces end where they say
pub ends : (bytes : List ℕ) (a b : Spot) (ps : List Piece) → Tiles bytes a ps b → end_from a ps ≡ b
ends bytes a b [] t = t
ends bytes a b (p ∷ ps) t = ends bytes (end_of p) b ps t.1

-- pieces after pieces
pub joined : (bytes : List ℕ) (a m b : Spot) (ps qs : List Piece) → Tiles bytes a ps m → Tiles bytes m qs b → Tiles bytes a (ps ++ qs) b
joined bytes a m b [] qs t u = subst (λ (s : Spot). Tiles bytes s qs b) (sym t) u
joined bytes a m b (p ∷ ps) qs t u = (t.0, joined bytes (end_of p) m b ps qs t.1 u)

-- and parted again
pub parted : (bytes : List ℕ) (a b : Spot) (ps qs : List Piece) → Tiles bytes a (ps ++ qs) b → Tiles bytes a ps (end_from a ps) × Tiles bytes (end_from a ps) qs b
parted bytes a b [] qs t = (refl, t)
parted bytes a b (p ∷ ps) qs t = let r = parted bytes (end_of p) b ps qs t.1 in ((t.0, r.0), r.1)

-- one piece more
pub one_more : (bytes : List ℕ) (a m : Spot) (ps : List Piece) (p : Piece) → Tiles bytes a ps m → Goes bytes p.kind m (end_of p) → Tiles bytes a (ps ++ p ∷ []) (end_of p)
one_more bytes a m ps p t g = joined bytes a m (end_of p) ps (p ∷ []) t (g, refl)

-- a piece between others
pub inserted : (bytes : List ℕ) (a b : Spot) (ps qs : List Piece) (p : Piece) → Tiles bytes a (ps ++ qs) b → end_of p ≡ end_from a ps → Goes bytes p.kind (end_from a ps) (end_of p) → Tiles bytes a ((ps ++ p ∷ []) ++ qs) b
inserted bytes a b ps qs p t end goes =
    let r = parted bytes a b ps qs t in
    joined bytes a (end_of p) b (ps ++ p ∷ []) qs (one_more bytes a (end_from a ps) ps p r.0 goes) (subst (λ (s : Spot). Tiles bytes s qs b) (sym end) r.1)

-- the last piece says where pieces end
pub end_at_last : (a : Spot) (ps : List Piece) (p : Piece) → Some p ≡ slice_get ps (length ps - 1) → end_of p ≡ end_from a ps
end_at_last a [] p last = absurd cc
end_at_last a (q ∷ []) p last = let same : p ≡ q = cc in ap end_of same
end_at_last a (q ∷ r ∷ ps) p last =
    let less : length (q ∷ r ∷ ps) - 1 ≡ suc (length (r ∷ ps) - 1) = omega arith in
    end_at_last (end_of q) (r ∷ ps) p (last ∙ ap (slice_get (q ∷ r ∷ ps)) less)

-- ---- Pieces that go the same way

-- two pieces are one, or both end a line at one place
abbrev pub IsLike : Piece → Piece → Type 0
IsLike p q = (p ≡ q) ⊎ (IsEnding p.kind × IsEnding q.kind × (end_of p ≡ end_of q))

abbrev pub AreLike : List Piece → List Piece → Type 0
AreLike [] [] = Unit {0}
AreLike (p ∷ ps) (q ∷ qs) = IsLike p q × AreLike ps qs
AreLike _ _ = ⊥

-- all kinds that end a line go the same way
pub goes_as_ending : (bytes : List ℕ) (k : PieceKind) (a b : Spot) → IsEnding k → Goes bytes k a b ≡ Goes bytes LineEnding a b
goes_as_ending bytes (Enter n) a b i = absurd i
goes_as_ending bytes (Exit n) a b i = absurd i
goes_as_ending bytes (Token n) a b i = absurd i
goes_as_ending bytes OpeningSequence a b i = absurd i
goes_as_ending bytes LineEnding a b i = refl
goes_as_ending bytes BlankLineEnding a b i = refl
goes_as_ending bytes Text a b i = absurd i
goes_as_ending bytes BlockQuotePrefix a b i = absurd i

like_goes : (bytes : List ℕ) (a : Spot) (p q : Piece) → IsLike p q → Goes bytes p.kind a (end_of p) → Goes bytes q.kind a (end_of q) × (end_of p ≡ end_of q)
like_goes bytes a p q (inl same) g = (subst (λ (x : Piece). Goes bytes x.kind a (end_of x)) same g, ap end_of same)
like_goes bytes a p q (inr both) g =
    let same : Goes bytes p.kind a (end_of p) ≡ Goes bytes q.kind a (end_of p) = goes_as_ending bytes p.kind a (end_of p) both.0 ∙ sym (goes_as_ending bytes q.kind a (end_of p) both.1) in
    (subst (λ (s : Spot). Goes bytes q.kind a s) both.2 (transport same g), both.2)

pub like_tiles : (bytes : List ℕ) (a b : Spot) (ps qs : List Piece) → AreLike ps qs → Tiles bytes a ps b → Tiles bytes a qs b
like_tiles bytes a b [] [] l t = t
like_tiles bytes a b [] (q ∷ qs) l t = absurd l
like_tiles bytes a b (p ∷ ps) [] l t = absurd l
like_tiles bytes a b (p ∷ ps) (q ∷ qs) l t =
    let g = like_goes bytes a p q l.0 t.0 in
    (g.0, subst (λ (s : Spot). Tiles bytes s qs b) g.1 (like_tiles bytes (end_of p) b ps qs l.1 t.1))

pub like_all : (ps : List Piece) → AreLike ps ps
like_all [] = tt
like_all (p ∷ ps) = (inl refl, like_all ps)

pub like_after : (ps qs rs : List Piece) → AreLike qs rs → AreLike (ps ++ qs) (ps ++ rs)
like_after [] qs rs l = l
like_after (p ∷ ps) qs rs l = (inl refl, like_after ps qs rs l)

pub like_dropped : (n : ℕ) (ps qs : List Piece) → AreLike ps qs → AreLike (drop n ps) (drop n qs)
like_dropped zero ps qs l = l
like_dropped (suc n) [] [] l = tt
like_dropped (suc n) [] (q ∷ qs) l = absurd l
like_dropped (suc n) (p ∷ ps) [] l = absurd l
like_dropped (suc n) (p ∷ ps) (q ∷ qs) l = like_dropped n ps qs l.1

-- another piece at a place
pub like_set : (ps : List Piece) (i : ℕ) (d q : Piece) → IsLike (get_or ps i d) q → AreLike ps (set ps i q)
like_set [] i d q l = tt
like_set (p ∷ ps) zero d q l = (l, like_all ps)
like_set (p ∷ ps) (suc i) d q l = (inl refl, like_set ps i d q l)

pub like_length : (ps qs : List Piece) → AreLike ps qs → length ps ≡ length qs
like_length [] [] l = refl
like_length [] (q ∷ qs) l = absurd l
like_length (p ∷ ps) [] l = absurd l
like_length (p ∷ ps) (q ∷ qs) l = ap suc (like_length ps qs l.1)

-- ---- Plain tokens

-- one ends at a cut
pub plain_cut : (bytes : List ℕ) (name : Name) (i : ℕ) → IsPlain name → IsCut bytes i → EndsCharacter bytes name i
plain_cut bytes ByteOrderMark i plain cut = absurd plain
plain_cut bytes _ i plain cut = cut

-- and can be read
pub plain_value : (bytes : List ℕ) (name : Name) (a b : Spot) → IsPlain name → a.offset < b.offset → HasValue bytes name a b
plain_value bytes ListItemValue a b plain some = absurd plain
plain_value bytes CharacterReferenceValue a b plain some = absurd plain
plain_value bytes HeadingSetextUnderlineSequence a b plain some = some
plain_value bytes _ a b plain some = tt
