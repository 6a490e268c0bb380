-- The nodes at an offset, which counts bytes from 0.
use Rattle.std.specs.Prelude.{◌≡◌, ◌&&◌, ℕ, Bool, false, true, Option, None, Some, Contains, if◌then◌else◌, nat_le, nat_lt, unwrap_or}
use Rattle.markdown_events.specs.declared.unist.Position.{Position}
use Rattle.markdown_nodes.specs.Tree.{Tree, Trees, node, nothing}
use Rattle.markdown_nodes.specs.Walk.{walk}

-- whether a position holds the byte at an offset: it starts at the byte or before it, and ends after it
abbrev pub holds : ℕ → Option Position → Bool
holds offset None = false
holds offset (Some here) = nat_le here.start.offset offset && nat_lt offset here.end.offset

-- whether a position ends at an offset or before it, or is missing
abbrev pub ends_by : ℕ → Option Position → Bool
ends_by offset None = true
ends_by offset (Some here) = nat_le here.end.offset offset

-- the deepest node that holds the byte: of the first node that does, the deepest one in it, or the node itself if none in it does
abbrev pub deepest : ℕ → Trees → Option Tree
deepest offset nothing = None
deepest offset (node label children here rest) =
    if holds offset here then Some (unwrap_or (deepest offset children) (record { label = label; children = children; position = here })) else deepest offset rest

-- a node of a tree that holds the byte
abbrev pub IsAt : ℕ → Tree → Tree → Type 0
IsAt offset tree found = Contains (walk tree) found × (holds offset found.position ≡ true)
