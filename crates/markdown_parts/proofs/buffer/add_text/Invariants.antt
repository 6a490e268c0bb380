-- What is written so far and the text of the levels to come are the whole, and so are the steps.
use Rattle.std.proofs.Common.{◌≡◌, ◌+◌, ◌++◌, string_bytes}
use Rattle.markdown_nodes.specs.View.{views}
use Rattle.markdown_grammar.specs.Buffers.{node_count}
use Rattle.markdown_parts.specs.Readings.{reading}
use Rattle.markdown_parts.proofs.Readings.{Reads, left, to_walk}
use Rattle.markdown_parts.proofs.buffer.add_text.Given as goal

abbrev pub invariant-walk : goal.invariant-walk
invariant-walk l = record {
  text : Reads l.fn.form (string_bytes l.text) l.level l.levels.items (string_bytes l.fn.text ++ reading l.fn.form (views l.fn.nodes));
  list : l.steps.events ≡ l.fn.steps.events;
  count : l.steps.count + left l.level l.levels.items ≡ l.fn.steps.count + node_count (views l.fn.nodes);
}

abbrev pub decreases-walk : goal.decreases-walk
decreases-walk l = to_walk l.level l.levels.items
