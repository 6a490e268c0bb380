-- Runs that are taken one after another.
use Rattle.std.specs.Prelude.{◌≡◌, true, List, [], ◌∷◌, ◌++◌, filter}
use Rattle.markdown_attention.specs.Emphasis.{DelimiterRun, NoneOpens, Pair, closed, is_opener_of, kept, opened, paired, strength}
use Rattle.markdown_attention.specs.Runs.{marked}
use Rattle.markdown_attention.specs.declared.delimiter.Delimiter.{Delimiter}

-- From `taken` and `runs`, those that are taken and those to come, to `last` and `left`: a run that has an opener among those taken
-- makes a pair with the nearest one, and any other run is taken.
pub data Takes : (taken runs : List DelimiterRun) (pairs : List Pair) (last left : List DelimiterRun) → Type 0 where
  stay : (taken runs : List DelimiterRun) → Takes taken runs [] taken runs
  keep : (taken : List DelimiterRun) (run : DelimiterRun) (rest : List DelimiterRun) (pairs : List Pair) (last left : List DelimiterRun)
      → NoneOpens taken run → Takes (taken ++ (run ∷ [])) rest pairs last left → Takes taken (run ∷ rest) pairs last left
  close : (before between : List DelimiterRun) (opener run : DelimiterRun) (rest : List DelimiterRun) (pairs : List Pair) (last left : List DelimiterRun)
      → is_opener_of opener run ≡ true → NoneOpens between run
      → Takes (before ++ kept (opened (strength opener run) opener)) (kept (closed (strength opener run) run) ++ rest) pairs last left
      → Takes (before ++ (opener ∷ between)) (run ∷ rest) (paired opener run ∷ pairs) last left

-- The runs of `taken` that may open something.
abbrev pub openers : (taken : List DelimiterRun) → List DelimiterRun
openers taken = filter (λ run. run.can_open) taken

-- `run` is being taken, on top of `taken`: `left` is left of it, and `runs` may open something.
pub record IsTaking (taken : List DelimiterRun) (run : DelimiterRun) (runs : List DelimiterRun) (left : DelimiterRun) (old new : List Delimiter) : Type 0 where
  pub later : List DelimiterRun
  pub pairs : List Pair
  pub openers_are : openers later ≡ runs
  pub takes : Takes taken (run ∷ []) pairs later (kept left)
  pub delimiters_are : new ≡ marked pairs old

-- All of `rest` is taken, on top of `taken`, and `runs` may open something.
pub record AreTaken (taken rest runs : List DelimiterRun) (old new : List Delimiter) : Type 0 where
  pub later : List DelimiterRun
  pub pairs : List Pair
  pub openers_are : openers later ≡ runs
  pub takes : Takes taken rest pairs later []
  pub delimiters_are : new ≡ marked pairs old

-- Some of `rest` are taken.
pub record AreTakenInPart (taken rest : List DelimiterRun) (old new : List Delimiter) : Type 0 where
  pub later : List DelimiterRun
  pub left : List DelimiterRun
  pub pairs : List Pair
  pub takes : Takes taken rest pairs later left
  pub delimiters_are : new ≡ marked pairs old
