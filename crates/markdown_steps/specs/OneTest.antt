-- The requirements of the grammar for a forest, as one test in one walk.
use Rattle.std.specs.Prelude.{Bool, false, is_some, not, true, ◌&&◌, ◌||◌}
use Rattle.markdown_events.specs.Forest.{Forest, is_well_formed}
use Rattle.markdown_events.specs.declared.event.Point.{Point}
use Rattle.markdown_events.specs.declared.role.ItemKind.{ItemKind}
use Rattle.markdown_grammar.specs.Accepted.{ends_with_break}
use Rattle.markdown_grammar.specs.Attributes.{Place, mark, inherited_after, inherited_in, inherited_at_root}
use Rattle.markdown_grammar.specs.Grammar.{ContentModel, any_content, model_after, model_of, has_required, conforms}
use Rattle.markdown_grammar.specs.Items.{Items, is_frontmatter, is_hard_break, is_line_ending, is_table, item, items, kinds, none}
use Rattle.markdown_grammar.specs.Document.{Source, byte_at}
use Rattle.markdown_grammar.specs.Values.{is_read}

-- after a break it is a line ending, it is not a table in a table, and a Frontmatter has its first byte
abbrev pub item_may_begin : Source → Place → Bool → ItemKind → Point → Bool
item_may_begin s p after_break what start = (not after_break || is_line_ending what) && not (p.in_table && is_table what) && (not (is_frontmatter what) || is_some (byte_at s.bytes start))

-- the last item in it is not a break, it contains what it requires, and its value can be read
abbrev pub item_may_end : Source → ContentModel → Place → Bool → ItemKind → Point → Point → Items → Bool
item_may_end s h p after_break what start end inner = not (ends_with_break inner) && has_required s (model_of h what) inner && is_read s h p after_break what start end

-- all items, at any depth, conform to the content models of their containers, and pass these tests
abbrev pub fits : Source → ContentModel → Place → Bool → Items → Bool
fits s h p after_break none = true
fits s h p after_break (item what start end _ inner rest) =
    (item_may_begin s p after_break what start
    && (conforms (model_of h what) (kinds inner) && fits s (model_of h what) (inherited_in what p) false inner)
    && item_may_end s h p after_break what start end inner)
    && fits s (model_after h what (is_some (mark inner))) (inherited_after what p) (is_hard_break what) rest

-- whether the grammar accepts a forest
abbrev pub accepted : Source → Forest → Bool
accepted s forest = is_well_formed forest && conforms any_content (kinds (items forest)) && fits s any_content inherited_at_root false (items forest) && not (ends_with_break (items forest))
