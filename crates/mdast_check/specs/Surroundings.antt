-- The surroundings of a node, as the code keeps them.
use Rattle.std.specs.Prelude.{◌≡◌, List, Option, [], ◌∷◌, ◌++◌, None, Some}
use Rattle.markdown_nodes.specs.Tree.{Tree}
use Rattle.mdast_check.specs.declared.references.Known.{Known}
use Rattle.mdast_check.specs.declared.references.OpenKind.TheVariants.{Link, Footnote}
use Rattle.mdast_check.specs.declared.warnings.Problem.{Problem}
use Rattle.mdast_check.specs.declared.warnings.around.Surroundings.{Surroundings}
use Rattle.mdast_check.specs.Asking.{IsKnown, answered}
use Rattle.mdast_check.specs.Known.{HasAll}
use Rattle.markdown_nodes.specs.Walk.{walk}
use Rattle.mdast_check.specs.Warnings.{Around, Finding, finding_of, first_depth, uses}

-- the gathered identifiers are those to which these nodes refer
abbrev pub AreUses : Known → List Tree → Type 0
AreUses known nodes = HasAll known.definitions (uses Link nodes) × HasAll known.footnotes (uses Footnote nodes)

-- the code has the surroundings of a node of a tree, once these nodes have been passed, the last one first
pub record StandAround (it : Surroundings) (tree : Tree) (passed : List Tree) : Type 0 where
  pub depth : it.depth ≡ first_depth passed
  pub defined : IsKnown it.defined (walk tree)
  pub used : AreUses it.used (walk tree)
  pub before : IsKnown it.before passed

-- the surroundings that the code keeps, as the rules use them
abbrev pub asked_of : Surroundings → Around
asked_of it = record { depth = it.depth; defined = answered it.defined; used = answered it.used; before = answered it.before }

-- the findings for an optional problem, and for two of them
abbrev pub finding_in : Option Problem → List Finding
finding_in None = []
finding_in (Some problem) = finding_of problem ∷ []

abbrev pub findings_in : Option Problem × Option Problem → List Finding
findings_in both = finding_in both.0 ++ finding_in both.1
