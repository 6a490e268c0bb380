-- How the code decides whether a reference is open: by the identifiers that it gathered before.
use Rattle.std.specs.Prelude.{ℕ, Bool, cond, List, Option, Some, None}
use Rattle.markdown_nodes.specs.Tree.{Tree}
use Rattle.mdast_check.specs.declared.references.Known.{Known}
use Rattle.mdast_check.specs.declared.references.OpenKind.{OpenKind}
use Rattle.mdast_check.specs.declared.references.OpenKind.TheVariants.{Link, Image, Footnote}
use Rattle.mdast_check.specs.Known.{HasAll, has}
use Rattle.mdast_check.specs.References.{Reference, answers, reference}

-- whether the gathered identifiers answer a reference of this kind to an identifier
abbrev pub answered : Known → OpenKind → List ℕ → Bool
answered known Link text = has known.definitions text
answered known Image text = has known.definitions text
answered known Footnote text = has known.footnotes text

-- the gathered identifiers are those that these nodes define
abbrev pub IsKnown : Known → List Tree → Type 0
IsKnown known nodes = HasAll known.definitions (answers Link nodes) × HasAll known.footnotes (answers Footnote nodes)

-- a reference, unless it is answered
abbrev pub unless : (OpenKind → List ℕ → Bool) → Option Reference → Option Reference
unless test None = None
unless test (Some reference) = cond (test reference.kind reference.identifier) None (Some reference)

-- a node as a reference, unless it is answered
abbrev pub open_node : (OpenKind → List ℕ → Bool) → Tree → Option Reference
open_node test node = unless test (reference node)
