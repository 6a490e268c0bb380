-- The delimiter runs of a content without closing brackets, as the first pass finds them.
use Rattle.std.specs.Prelude.{List, None, Some, [], get_or, length, replicate, slice_index, ℕ, ◌+◌, ◌<◌, ◌≡◌}
use Rattle.std.specs.List.{All}
use Rattle.markdown_attention.specs.Emphasis.{DelimiterRun, Pair, Resolves}
use Rattle.markdown_attention.specs.Runs.{marked, views}
use Rattle.markdown_attention.specs.declared.delimiter.Delimiter.{Delimiter}
use Rattle.markdown_attention.specs.declared.delimiter.Delimiter.TheVariants.{Data}
use Rattle.markdown_options.specs.declared.ParseOptions.{ParseOptions}
use Rattle.markdown_text.specs.AttentionRuns.{AreAllRuns, AreRunsOf, HasNoClosing}
use Rattle.markdown_text.specs.Constructs.{IsMarker}
use Rattle.markdown_text.specs.Reached.{IsWith}
use Rattle.markdown_text.specs.declared.attention.Attention.{Attention}
use Rattle.markdown_text.specs.declared.token.Found.{Found}
use Rattle.markdown_text.specs.declared.token.Token.{Token}
use Rattle.markdown_text.specs.declared.token.TokenKind.{TokenKind}
use Rattle.markdown_text.specs.declared.token.TokenKind.TheVariants.{LabelEnd, LabelStart}

-- A token of this kind is not part of a label that ends.
abbrev pub IsNoLabel : TokenKind → Type 0
IsNoLabel (LabelStart (Some labelled)) = ⊥
IsNoLabel (LabelEnd labelled target) = ⊥
IsNoLabel _ = Unit {0}

-- If data is found at an offset, it has no marker after its first byte.
abbrev pub HasNoLaterMarker : List ℕ → ℕ → Found → Type 0
HasNoLaterMarker content at found = found.kind ≡ None → (k : ℕ) → at < k → k < at + found.size → IsMarker (slice_index content k) → ⊥

-- The runs of the tokens up to an offset are waiting, and none of them has been resolved yet.
pub record AreWaiting (options : ParseOptions) (content : List ℕ) (tokens : List Token) (end : ℕ) (attention : Attention) : Type 0 where
  pub no_labels : All (λ t. IsNoLabel t.kind) tokens
  pub runs : AreRunsOf content tokens (views attention.runs.items)
  pub all : AreAllRuns options content tokens end
  pub untouched : attention.delimiters.items ≡ []

-- The runs wait, if the content has no closing brackets. Below: they wait once what was found at an offset is a token.
abbrev pub Wait : ParseOptions → (content : List ℕ) → List Token → ℕ → Attention → Type 0
Wait options content tokens end attention = HasNoClosing content → AreWaiting options content tokens end attention

abbrev pub WaitWith : ParseOptions → (content : List ℕ) → List Token → ℕ → Found → Attention → Type 0
WaitWith options content tokens at found attention = (us : List Token) → IsWith tokens at found.kind (at + found.size) us → Wait options content us (at + found.size) attention

-- The delimiter at each offset of a content: the sequences of the pairs that its runs make.
pub record ArePairsOf (options : ParseOptions) (content : List ℕ) (tokens : List Token) (delimiters : List Delimiter) : Type 0 where
  pub no_labels : All (λ t. IsNoLabel t.kind) tokens
  pub runs : List DelimiterRun
  pub are : AreRunsOf content tokens runs
  pub all : AreAllRuns options content tokens (length content)
  pub pairs : List Pair
  pub resolves : Resolves runs pairs
  pub delimiters_are : (at : ℕ) → get_or delimiters at Data ≡ get_or (marked pairs (replicate (length content) Data)) at Data
