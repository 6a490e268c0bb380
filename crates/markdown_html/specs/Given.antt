-- The input of a page, as the code has it.
use Rattle.std.specs.Prelude.{ℕ, List}
use Rattle.markdown_nodes.specs.declared.mdast.Node.{Node}
use Rattle.markdown_nodes.specs.View.{view}
use Rattle.markdown_html.specs.declared.source.Raw.{Raw}
use Rattle.markdown_html.specs.Html.{Source}

pub record Given : Type 0 where
  pub raw : Raw
  pub id_prefix : List ℕ
  pub root : Node

abbrev pub source_of : Given → Source
source_of given = record { raw = given.raw; id_prefix = given.id_prefix; tree = view given.root }
