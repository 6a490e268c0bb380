-- Laws of emphasis, for all runs.
use Rattle.std.specs.Prelude.{◌≡◌, List}
use Rattle.markdown_attention.specs.Emphasis.{DelimiterRun, Pair, Resolves}
use Rattle.markdown_attention.specs.Nesting.{AreNested, Follow}

-- Runs make only one list of pairs.
abbrev pub HaveOneResult : Type 0
HaveOneResult = (runs : List DelimiterRun) (pairs others : List Pair) → Resolves runs pairs → Resolves runs others → pairs ≡ others

-- Pairs of runs that follow each other nest.
abbrev pub HaveNestedPairs : Type 0
HaveNestedPairs = (runs : List DelimiterRun) (pairs : List Pair) → Follow 0 runs → Resolves runs pairs → AreNested pairs
