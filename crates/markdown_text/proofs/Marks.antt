-- What comes after the mark of a task, and what begins without one.
use Rattle.std.proofs.Common.{Bool, List, Option, [], arith, false, refl, subst, sym, true, ℕ, ◌<◌, ◌∷◌, ◌≡◌}
use Rattle.event_writer.specs.Stages.{Enclosing, Stage, inlines, task}
use Rattle.event_writer.specs.Written.{Written}
use Rattle.markdown_text.proofs.Standings.{weakened}
use Rattle.markdown_text.specs.Outputs.{BeginsText, GoesOn, IsAtText, as_text, bytes_of, references_of}
use Rattle.markdown_text.specs.Standings.{IsAt, IsSomewhere}
use Rattle.markdown_text.specs.Texts.{text_of}
use Rattle.markdown_text.specs.Tokens.{AreTokens, IsToken, Text}
use Rattle.markdown_text.specs.declared.output.Output.{Output}
use Rattle.markdown_text.specs.declared.token.Token.{Token}
use Rattle.markdown_text.specs.declared.token.TokenKind.{TokenKind}
use Rattle.markdown_text.specs.declared.token.TokenKind.TheVariants.{Attention, Autolink, AutolinkLiteral, CharacterEscape, CharacterReference, CodeText, HardBreakEscape, HtmlText, LabelEnd, LabelStart, LineEnding, MathText, TaskListItemCheck}

-- ---- Tokens

-- a token that is no mark may stand in a text that has none
token_other : (bytes : List ℕ) (decode : List ℕ → ℕ → Option (List ℕ)) (may : Bool) (kind : TokenKind) (from to : ℕ) → ((b : Bool) → kind ≡ TaskListItemCheck b → ⊥) → IsToken (text_of bytes decode may) kind from to → IsToken (text_of bytes decode false) kind from to
token_other bytes decode may LineEnding from to other h = h
token_other bytes decode may HardBreakEscape from to other h = h
token_other bytes decode may CharacterEscape from to other h = h
token_other bytes decode may (CharacterReference kind) from to other h = record { ascii = h.ascii; filled = h.filled; known = h.known }
token_other bytes decode may (CodeText size) from to other h = h
token_other bytes decode may (MathText size) from to other h = h
token_other bytes decode may (Autolink name) from to other h = h
token_other bytes decode may HtmlText from to other h = h
token_other bytes decode may (AutolinkLiteral name) from to other h = h
token_other bytes decode may Attention from to other h = h
token_other bytes decode may (LabelStart label) from to other h = h
token_other bytes decode may (LabelEnd label target) from to other h = h
token_other bytes decode may (TaskListItemCheck b) from to other h = absurd (other b refl)

-- a mark begins at the first byte
later_other : (text : Text) (kind : TokenKind) (from to : ℕ) → 0 < from → IsToken text kind from to → (b : Bool) → kind ≡ TaskListItemCheck b → ⊥
later_other text kind from to after h b is = let first = (subst (λ (k : TokenKind). IsToken text k from to) is h).1 in absurd (omega (arith, first, after))

-- no mark comes later
tokens_later : (bytes : List ℕ) (decode : List ℕ → ℕ → Option (List ℕ)) (may : Bool) (from : ℕ) (ts : List Token) → 0 < from → AreTokens (text_of bytes decode may) from ts → AreTokens (text_of bytes decode false) from ts
tokens_later bytes decode may from [] after h = h
tokens_later bytes decode may from (t ∷ ts) after h =
    let order = h.0.order in
    let filled = t.filled in
    (h.0, token_other bytes decode may t.kind t.start t.end (later_other (text_of bytes decode may) t.kind t.start t.end (omega (arith, after, order)) h.1) h.1, tokens_later bytes decode may t.end ts (omega (arith, after, order, filled)) h.2)

-- none comes where the first token is none
pub tokens_other : (bytes : List ℕ) (decode : List ℕ → ℕ → Option (List ℕ)) (may : Bool) (from at : ℕ) (all ts : List Token) (t : Token) → all ≡ t ∷ ts → ((b : Bool) → t.kind ≡ TaskListItemCheck b → ⊥) → at ≡ from → AreTokens (text_of bytes decode may) from all → AreTokens (text_of bytes decode false) at all
tokens_other bytes decode may from at all ts t is other same h =
    let these = subst (AreTokens (text_of bytes decode may) from) is h in
    let filled = t.filled in
    subst (AreTokens (text_of bytes decode false) at) (sym is)
    (subst (λ (n : ℕ). AreTokens (text_of bytes decode false) n (t ∷ ts)) (sym same) (these.0, token_other bytes decode may t.kind t.start t.end other these.1, tokens_later bytes decode may t.end ts (omega (arith, filled)) these.2))

-- none comes after one
pub tokens_after_mark : (bytes : List ℕ) (decode : List ℕ → ℕ → Option (List ℕ)) (may : Bool) (all ts : List Token) (t : Token) (b : Bool) → all ≡ t ∷ ts → t.kind ≡ TaskListItemCheck b → AreTokens (text_of bytes decode may) 0 all → AreTokens (text_of bytes decode false) 3 ts
tokens_after_mark bytes decode may all ts t b is mark h =
    let these = subst (AreTokens (text_of bytes decode may) 0) is h in
    let end = (subst (λ (k : TokenKind). IsToken (text_of bytes decode may) k t.start t.end) mark these.1).2 in
    tokens_later bytes decode may 3 ts (omega arith) (subst (λ (n : ℕ). AreTokens (text_of bytes decode may) n ts) end these.2)

-- the tokens that are left of a content that is written on
pub tokens_as : {R S : Type 0} (decode : R → List ℕ → ℕ → Option (List ℕ)) (old new : Output R S) (at : ℕ) (ts : List Token) → GoesOn old new → new.«data» ≡ at → AreTokens (as_text old (decode (references_of old)) false) at ts → AreTokens (as_text new (decode (references_of new)) false) new.«data» ts
tokens_as {R} decode old new at ts goes same h =
    subst (λ (n : ℕ). AreTokens (as_text new (decode (references_of new)) false) n ts) (sym same)
    (subst (λ (bs : List ℕ). AreTokens (text_of bs (decode (references_of new)) false) at ts) (sym goes.bytes)
    (subst (λ (r : R). AreTokens (text_of (bytes_of old) (decode r) false) at ts) (sym goes.references) h))

-- ---- Stages

-- where a mark may stand, inlines may
pub text_begins : {R : Type 0} (may : Bool) (w : Written R) (h : Bool) (outer : List Enclosing) → IsAtText may w h outer → IsAt w (inlines h) outer
text_begins true w h outer at = subst (λ (b : Bool). IsAt w (inlines b) outer) (sym at.0) (weakened w task (inlines false) outer refl at.1)
text_begins false w h outer at = at

-- the same of a writer that stands where another one does
pub text_goes : {R : Type 0} (may : Bool) (old new : Written R) (h : Bool) (outer : List Enclosing) → ((a : Stage) → IsAt old a outer → IsAt new a outer) → IsAtText may old h outer → IsAtText may new h outer
text_goes true old new h outer goes at = (at.0, goes task at.1)
text_goes false old new h outer goes at = goes (inlines h) at

pub begins_somewhere : {R : Type 0} (may : Bool) (w : Written R) → BeginsText may w → IsSomewhere w
begins_somewhere may w begins = record { stage = inlines begins.in_heading; outer = begins.outer; at = text_begins may w begins.in_heading begins.outer begins.at }
