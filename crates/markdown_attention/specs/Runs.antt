-- The runs of the program as those of the definitions, and the delimiters that their pairs set in a content.
use Rattle.std.specs.Prelude.{Bool, true, false, ℕ, ◌≡◌, ◌<◌, ◌⊎◌, ◌||◌, if◌then◌else◌, ◌+◌, ◌-◌, ◌==◌, List, [], ◌∷◌, map, slice_set}
use Rattle.std.specs.List.{All}
use Rattle.markdown_attention.specs.Emphasis.{DelimiterRun, Pair, Resolves}
use Rattle.markdown_attention.specs.declared.delimiter.AttentionKind.{AttentionKind}
use Rattle.markdown_attention.specs.declared.delimiter.AttentionKind.TheVariants.{Emphasis, Strong, Strikethrough, DoubleStrikethrough}
use Rattle.markdown_attention.specs.declared.delimiter.Delimiter.{Delimiter}
use Rattle.markdown_attention.specs.declared.delimiter.Delimiter.TheVariants.{Opening, Closing}
use Rattle.markdown_attention.specs.declared.run.Run.{Run}

-- A run of the program, as one of the definitions.
abbrev pub view : Run → DelimiterRun
view run = record {
  marker = run.marker;
  size = run.end - run.start;
  first = run.start + run.closing;
  left = run.end - run.start - (run.closing + run.opening);
  can_open = run.can_open;
  can_close = run.can_close;
}

abbrev pub views : List Run → List DelimiterRun
views runs = map view runs

-- A run of this many markers at an offset, none of them taken yet.
pub record IsWhole (run : DelimiterRun) (marker at size : ℕ) (opens closes : Bool) : Type 0 where
  pub marker_is : run.marker ≡ marker
  pub size_is : run.size ≡ size
  pub first_is : run.first ≡ at
  pub left_is : run.left ≡ size
  pub opens_is : run.can_open ≡ opens
  pub closes_is : run.can_close ≡ closes

-- This many of a marker are a delimiter run: asterisks or underscores, and one or two tildes (GFM).
abbrev pub are_markers : (marker size : ℕ) → Bool
are_markers marker size = if marker == 126 then (size == 1) || (size == 2) else (marker == 95) || (marker == 42)

abbrev pub IsDelimiterRun : DelimiterRun → Type 0
IsDelimiterRun run = are_markers run.marker run.size ≡ true

-- A delimiter run with remaining markers.
abbrev pub IsReady : DelimiterRun → Type 0
IsReady run = IsDelimiterRun run × (0 < run.left)

abbrev pub AreReady : List Run → Type 0
AreReady runs = All (λ (run : Run). IsReady (view run)) runs

-- The delimiters of a content, with those of the pairs set where their sequences begin.
abbrev pub marked : List Pair → List Delimiter → List Delimiter
marked [] delimiters = delimiters
marked (pair ∷ pairs) delimiters = marked pairs (slice_set (slice_set delimiters pair.opening (Opening pair.kind)) pair.closing (Closing pair.kind))

-- The pairs of `runs` are marked.
pub record AreResolved (runs : List DelimiterRun) (old new : List Delimiter) : Type 0 where
  pub pairs : List Pair
  pub resolves : Resolves runs pairs
  pub delimiters_are : new ≡ marked pairs old

-- Tildes make this kind.
abbrev pub is_struck : AttentionKind → Bool
is_struck Emphasis = false
is_struck Strong = false
is_struck Strikethrough = true
is_struck DoubleStrikethrough = true

-- A run of `runs` has a marker that makes this kind.
abbrev pub HasMarkerOf : (runs : List DelimiterRun) → AttentionKind → Type 0
HasMarkerOf [] kind = ⊥
HasMarkerOf (run ∷ runs) kind = ((run.marker == 126) ≡ is_struck kind) ⊎ HasMarkerOf runs kind

-- Pairs are marked, and `runs` have the markers for their kinds: all pairs of the runs, or some of them if memory ran out.
pub record AreMarked (runs : List DelimiterRun) (old new : List Delimiter) : Type 0 where
  pub pairs : List Pair
  pub kinds : All (λ (pair : Pair). HasMarkerOf runs pair.kind) pairs
  pub delimiters_are : new ≡ marked pairs old
