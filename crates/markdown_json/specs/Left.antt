-- What of the JSON of a tree is still to be written, at each step of the walk.
use Rattle.std.specs.Prelude.{ℕ, Bool, true, List, [], ◌∷◌, ◌++◌, codes, if◌then◌else◌}
use Rattle.markdown_events.specs.declared.unist.Point.{Point}
use Rattle.markdown_json.specs.declared.pieces.Frame.{Frame}
use Rattle.markdown_json.specs.Json.{closing, json_notation}
use Rattle.markdown_nodes.specs.Access.{label_of, position_of}
use Rattle.markdown_nodes.specs.declared.mdast.Node.{Node}
use Rattle.markdown_nodes.specs.View.{views}
use Rattle.markdown_nodes.specs.Written.{nodes_written}

-- the nodes of a level, the first one after a comma if one before it is written
abbrev pub level_left : (Point → Point) → Bool → List Node → List ℕ
level_left counted later level = nodes_written (json_notation counted) (if later then codes "," else []) (views level)

-- the end of a node, and the nodes after it
abbrev pub frame_left : (Point → Point) → Frame → List ℕ
frame_left counted frame = closing counted (label_of frame.node.now) (position_of frame.node.now) ++ level_left counted true frame.rest.now

-- the same of the nodes on a stack, the last one first
abbrev pub frames_left : (Point → Point) → List Frame → List ℕ
frames_left counted [] = []
frames_left counted (frame ∷ frames) = frames_left counted frames ++ frame_left counted frame

-- the nodes of a level, and what is around it
abbrev pub left : (Point → Point) → Bool → List Node → List Frame → List ℕ
left counted later level frames = level_left counted later level ++ frames_left counted frames
