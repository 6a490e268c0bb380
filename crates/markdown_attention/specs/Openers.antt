-- The stack of the runs that may still open something.
use Rattle.std.specs.Prelude.{ℕ, ◌≡◌, ◌<◌, ◌≤◌, ◌+◌, ◌%◌, ◌==◌, true, if◌then◌else◌, List, [], ◌∷◌, ◌++◌, length, slice_index, take}
use Rattle.markdown_attention.specs.Emphasis.{DelimiterRun, NoneOpens, closed, is_opener_of, kept, opened, paired, strength}
use Rattle.markdown_attention.specs.Runs.{IsDelimiterRun, marked}
use Rattle.markdown_attention.specs.declared.delimiter.Delimiter.{Delimiter}

-- The class of a closing run: all runs of a class go with the same opening runs.
abbrev pub class_of : DelimiterRun → ℕ
class_of run =
    if run.marker == 126 then run.size % 2
    else (if run.marker == 95 then 2 else 8) + (run.size % 3 + (if run.can_open then 3 else 0))

-- For each class, this many runs at the bottom are not openers.
abbrev pub AreBottoms : (bottoms : List ℕ) (runs : List DelimiterRun) → Type 0
AreBottoms bottoms runs = (closer : DelimiterRun) → IsDelimiterRun closer → NoneOpens (take (slice_index bottoms (class_of closer)) runs) closer

-- No bottom is above the top.
abbrev pub AreWithin : (bottoms : List ℕ) (runs : List DelimiterRun) → Type 0
AreWithin bottoms runs = (class : ℕ) → slice_index bottoms class ≤ length runs

-- Each run may open something.
abbrev pub AreOpeners : List DelimiterRun → Type 0
AreOpeners [] = Unit {0}
AreOpeners (run ∷ runs) = (IsDelimiterRun run × (run.can_open ≡ true) × (0 < run.left)) × AreOpeners runs

-- A stack of runs that may open something, with bottoms that are right for it.
pub record IsSound (bottoms : List ℕ) (runs : List DelimiterRun) : Type 0 where
  pub openers : AreOpeners runs
  pub bottoms_are : AreBottoms bottoms runs
  pub within : AreWithin bottoms runs

-- The top of this many runs is the nearest opener of `closer`.
pub record IsNearest (runs : List DelimiterRun) (closer : DelimiterRun) (height : ℕ) : Type 0 where
  pub before : List DelimiterRun
  pub opener : DelimiterRun
  pub after : List DelimiterRun
  pub runs_are : runs ≡ before ++ (opener ∷ after)
  pub height_is : length before + 1 ≡ height
  pub fit : is_opener_of opener closer ≡ true
  pub none : NoneOpens after closer

-- A run that may close something.
pub record MayClose (run : DelimiterRun) : Type 0 where
  pub is_run : IsDelimiterRun run
  pub closes : run.can_close ≡ true
  pub some : 0 < run.left

-- `opener`, on top of `before`, and `closer` have made a pair: `runs` and `left` are what is left of them.
pub record IsPaired (before : List DelimiterRun) (opener closer : DelimiterRun) (runs : List DelimiterRun) (left : DelimiterRun) (old new : List Delimiter) : Type 0 where
  pub runs_are : runs ≡ before ++ kept (opened (strength opener closer) opener)
  pub left_is : left ≡ closed (strength opener closer) closer
  pub delimiters_are : new ≡ marked (paired opener closer ∷ []) old

-- `closer` has made a pair with its nearest opener.
pub record IsClosed (runs : List DelimiterRun) (closer : DelimiterRun) (left_runs : List DelimiterRun) (left : DelimiterRun) (old new : List Delimiter) : Type 0 where
  pub before : List DelimiterRun
  pub opener : DelimiterRun
  pub after : List DelimiterRun
  pub runs_are : runs ≡ before ++ (opener ∷ after)
  pub fit : is_opener_of opener closer ≡ true
  pub none : NoneOpens after closer
  pub paired : IsPaired before opener closer left_runs left old new
