-- Delimiter runs whose constructs are on.
use Rattle.std.specs.Prelude.{List, [], ◌∷◌, replicate, true, ℕ, ◌≡◌}
use Rattle.std.specs.List.{All}
use Rattle.markdown_attention.specs.Runs.{view}
use Rattle.markdown_attention.specs.declared.delimiter.Delimiter.{Delimiter}
use Rattle.markdown_attention.specs.declared.delimiter.Delimiter.TheVariants.{Data}
use Rattle.markdown_attention.specs.declared.run.Run.{Run}
use Rattle.markdown_options.specs.declared.Constructs.{Constructs}
use Rattle.markdown_text.specs.Constructs.{AreDelimitersOn, is_marker_on}
use Rattle.markdown_text.specs.declared.attention.Attention.{Attention}

-- the construct of each of these runs is on
abbrev pub AreRunsOn : Constructs → List Run → Type 0
AreRunsOn c runs = All (λ (run : Run). is_marker_on c (view run).marker ≡ true) runs

-- the constructs of the waiting runs are on, and those of the delimiters
pub record IsAttentionOn (c : Constructs) (a : Attention) : Type 0 where
  pub runs : AreRunsOn c a.runs.items
  pub delimiters : AreDelimitersOn c a.delimiters.items

-- the delimiters of a content of this size; if there are none yet, all of it is data
abbrev pub begun : ℕ → List Delimiter → List Delimiter
begun size [] = replicate size Data
begun size (delimiter ∷ delimiters) = delimiter ∷ delimiters

-- the delimiters before these runs are resolved; without runs, they are left as they are
abbrev pub room : List Run → ℕ → List Delimiter → List Delimiter
room [] size delimiters = delimiters
room (run ∷ runs) size delimiters = begun size delimiters
