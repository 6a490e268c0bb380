-- The delimiter runs of a content without closing brackets.
use Rattle.std.specs.Prelude.{Bool, List, [], drop, false, if◌then◌else◌, slice_index, take, true, ℕ, ◌&&◌, ◌-◌, ◌<◌, ◌==◌, ◌||◌, ◌∷◌, ◌≡◌, ◌≢◌, ◌≤◌, ◌⊎◌}
use Rattle.std.specs.List.{All}
use Rattle.commonmark_syntax.specs.Inlines.{delimiter_run}
use Rattle.commonmark_syntax.specs.Language.{Leaves}
use Rattle.markdown_attention.specs.Emphasis.{DelimiterRun}
use Rattle.markdown_attention.specs.Flanking.{Flanked}
use Rattle.markdown_attention.specs.Runs.{IsWhole}
use Rattle.markdown_options.specs.declared.ParseOptions.{ParseOptions}
use Rattle.markdown_text.specs.Constructs.{IsMarker}
use Rattle.markdown_text.specs.declared.token.Token.{Token}
use Rattle.markdown_text.specs.declared.token.TokenKind.{TokenKind}
use Rattle.markdown_text.specs.declared.token.TokenKind.TheVariants.{Attention as Delimiters}

-- The content has no closing brackets, so no label ends in it.
abbrev pub HasNoClosing : List ℕ → Type 0
HasNoClosing content = (at : ℕ) → slice_index content at ≢ 93

-- The run of a token: all bytes are like the first one, none is taken yet, and the characters beside the run decide
-- what it can open and close.
pub record IsRunOf (content : List ℕ) (t : Token) (run : DelimiterRun) : Type 0 where
  pub some : t.start < t.end
  pub all : Leaves (delimiter_run (slice_index content t.start)) (drop t.start content) (drop t.end content)
  pub whole : IsWhole run (slice_index content t.start) t.start (t.end - t.start) run.can_open run.can_close
  pub flanked : Flanked (slice_index content t.start) (take t.start content) (drop t.end content) run.can_open run.can_close

-- The tokens that are delimiter runs.
abbrev pub is_delimiters : TokenKind → Bool
is_delimiters Delimiters = true
is_delimiters _ = false

abbrev pub delimiter_tokens : List Token → List Token
delimiter_tokens [] = []
delimiter_tokens (t ∷ ts) = if is_delimiters t.kind then t ∷ delimiter_tokens ts else delimiter_tokens ts

-- These are the runs of the tokens, in order.
abbrev pub AreRuns : (content : List ℕ) → List Token → List DelimiterRun → Type 0
AreRuns content [] [] = Unit {0}
AreRuns content [] (run ∷ runs) = ⊥
AreRuns content (t ∷ ts) [] = ⊥
AreRuns content (t ∷ ts) (run ∷ runs) = IsRunOf content t run × AreRuns content ts runs

abbrev pub AreRunsOf : (content : List ℕ) → List Token → List DelimiterRun → Type 0
AreRunsOf content tokens runs = AreRuns content (delimiter_tokens tokens) runs

-- A run of this size counts: two tildes, or one if the options allow it, where strikethrough is on; another marker where attention is on.
abbrev pub counts : ParseOptions → (marker size : ℕ) → Bool
counts options marker size =
    if marker == 126 then options.constructs.gfm_strikethrough && ((size == 2) || ((size == 1) && options.gfm_strikethrough_single_tilde))
    else options.constructs.attention

-- An offset is in one of these tokens.
abbrev pub IsInToken : List Token → ℕ → Type 0
IsInToken [] at = ⊥
IsInToken (t ∷ ts) at = ((t.start ≤ at) × (at < t.end)) ⊎ IsInToken ts at

-- A marker at an offset stays text: it is in a run that does not count.
pub record StaysText (options : ParseOptions) (content : List ℕ) (at : ℕ) : Type 0 where
  pub start : ℕ
  pub end : ℕ
  pub least : start ≤ at
  pub less : at < end
  pub all : Leaves (delimiter_run (slice_index content start)) (drop start content) (drop end content)
  pub none : counts options (slice_index content start) (end - start) ≡ false

-- Up to an offset, all runs are among these tokens: each of these runs counts, and each marker is in a token or stays text.
pub record AreAllRuns (options : ParseOptions) (content : List ℕ) (tokens : List Token) (end : ℕ) : Type 0 where
  pub counted : All (λ t. is_delimiters t.kind ≡ true → counts options (slice_index content t.start) (t.end - t.start) ≡ true) tokens
  pub others : (at : ℕ) → at < end → IsMarker (slice_index content at) → IsInToken tokens at ⊎ StaysText options content at
