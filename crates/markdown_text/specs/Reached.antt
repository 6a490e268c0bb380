-- Tokens so far, and the brackets that are open among them.
use Rattle.std.specs.Prelude.{Bool, List, None, Option, Some, [], false, slice_get, true, ◌++◌, ◌+◌, ◌∷◌, ◌≡◌, ◌≤◌, ℕ}
use Rattle.std.specs.List.{All}
use Rattle.markdown_text.specs.Contents.{IsPart}
use Rattle.markdown_text.specs.Tokens.{IsToken, Text}
use Rattle.markdown_text.specs.declared.brackets.Bracket.{Bracket}
use Rattle.markdown_text.specs.declared.brackets.LabelForm.{LabelForm}
use Rattle.markdown_text.specs.declared.brackets.LabelForm.TheVariants.{Footnote, Image, Link}
use Rattle.markdown_text.specs.declared.token.Found.{Found}
use Rattle.markdown_text.specs.declared.token.Token.{Token}
use Rattle.markdown_text.specs.declared.token.TokenKind.{TokenKind}
use Rattle.markdown_text.specs.declared.token.TokenKind.TheVariants.{LabelStart}

-- tokens in order, from one offset to another: before each of them, and after the last, there is data within a line
abbrev pub Reach : Text → ℕ → List Token → ℕ → Type 0
Reach text from [] to = IsPart text.bytes from to
Reach text from (t ∷ ts) to = IsPart text.bytes from t.start × IsToken text t.kind t.start t.end × Reach text t.end ts to

-- new tokens reach as far as the old ones, in any text
abbrev pub ReachAsFar : List Token → List Token → Type 0
ReachAsFar old new = (text : Text) (from to : ℕ) → Reach text from old to → Reach text from new to

-- the number of bytes in a label start of this form
abbrev pub form_size : LabelForm → ℕ
form_size Link = 1
form_size Image = 2
form_size Footnote = 2

-- whether there is a bracket
abbrev pub has_bracket : List Bracket → Bool
has_bracket [] = false
has_bracket (b ∷ bs) = true

-- whether a token of this kind is the start of a label
abbrev pub starts_label : TokenKind → Bool
starts_label (LabelStart label) = true
starts_label _ = false

-- a token is the start of a label of this form
abbrev pub IsStartOf : LabelForm → Token → Type 0
IsStartOf form t = (starts_label t.kind ≡ true) × (t.start + form_size form ≤ t.end)

-- a bracket is open among tokens: one of them is its start
abbrev pub IsOpen : List Token → Bracket → Type 0
IsOpen ts bracket = (t : Token) × (slice_get ts bracket.token ≡ Some t) × IsStartOf bracket.form t

-- each of these brackets is open
abbrev pub AreOpen : List Token → List Bracket → Type 0
AreOpen ts brackets = All (IsOpen ts) brackets

-- the tokens, and what was found at an offset unless it is data
abbrev pub IsWith : List Token → ℕ → Option TokenKind → ℕ → List Token → Type 0
IsWith ts from None to us = us ≡ ts
IsWith ts from (Some kind) to us = (t : Token) × (t.kind ≡ kind) × (t.start ≡ from) × (t.end ≡ to) × (us ≡ ts ++ t ∷ [])

-- brackets that are open once what was found at an offset is a token
abbrev pub AreOpenWith : List Token → ℕ → Found → List Bracket → Type 0
AreOpenWith ts at found brackets = (us : List Token) → IsWith ts at found.kind (at + found.size) us → AreOpen us brackets
