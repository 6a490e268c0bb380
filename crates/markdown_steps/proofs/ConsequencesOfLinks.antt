-- Autolinks give links.
use Rattle.std.proofs.Common.{◌≡◌, true, [], ◌++◌, Option, None, Some, refl}
use Rattle.std.specs.Prelude.{codes}
use Rattle.markdown_events.specs.Forest.{Forest}
use Rattle.markdown_nodes.specs.Tree.{Trees, join, nothing}
use Rattle.markdown_events.specs.declared.event.Point.{Point}
use Rattle.markdown_events.specs.declared.role.ItemKind.{ItemKind}
use Rattle.markdown_steps.proofs.Decorating.{span_at}
use Rattle.markdown_steps.specs.Consequences.{IsLinkBefore, is_autolink}
use Rattle.markdown_grammar.specs.Document.{value_read}
use Rattle.markdown_grammar.specs.Items.{Items, item}
use Rattle.markdown_grammar.specs.Decorated.{Found, first, nodes_of}
use Rattle.markdown_grammar.specs.Decorated.{node_at}
use Rattle.markdown_grammar.specs.Nodes.{Span, autolink, decorate}
use Rattle.markdown_grammar.specs.Attributes.{Place, inherited_after}
use Rattle.markdown_grammar.specs.Document.{Source}
use Rattle.markdown_nodes.specs.Tree as tree
use Rattle.markdown_events.specs.declared.role.Content.TheVariants as contents
use Rattle.markdown_events.specs.declared.role.Part.TheVariants as parts
use Rattle.markdown_events.specs.declared.role.ItemKind.TheVariants.{Content as content}

autolink-before : (s : Source) (x : Span) (email address : Option Found) (rest : Trees) → IsLinkBefore (join (autolink s x email address) rest) x.start x.end rest
autolink-before s x (Some y) o rest = record { url = codes "mailto:" ++ value_read s y.start y.end; children = node_at (tree.text (value_read s y.start y.end)) nothing y.start y.end; is_link = refl }
autolink-before s x None (Some y) rest = record { url = [] ++ value_read s y.start y.end; children = node_at (tree.text (value_read s y.start y.end)) nothing y.start y.end; is_link = refl }
autolink-before s x None None rest = record { url = []; children = nothing; is_link = refl }

-- the nodes of an autolink and of what comes after it are a link and the nodes of what comes after it
pub links : (s : Source) (p : Place) (what : ItemKind) (start end : Point) (children : Forest) (inner rest : Items) → is_autolink what ≡ true
    → IsLinkBefore (nodes_of (decorate s p (item what start end children inner rest))) start end (nodes_of (decorate s (inherited_after what p) rest))
links s p (content contents.Autolink) a b d inner rest h =
    let x : Span = span_at s p (content contents.Autolink) a b d inner in
    autolink-before s x (first parts.AutolinkEmail x.items) (first parts.AutolinkProtocol x.items) (nodes_of (decorate s (inherited_after (content contents.Autolink) p) rest))
links s p (content contents.AutolinkLiteralEmail) a b d inner rest h = record { url = codes "mailto:" ++ value_read s a b; children = node_at (tree.text (value_read s a b)) nothing a b; is_link = refl }
links s p (content contents.AutolinkLiteralWww) a b d inner rest h = record { url = codes "http://" ++ value_read s a b; children = node_at (tree.text (value_read s a b)) nothing a b; is_link = refl }
links s p (content contents.AutolinkLiteralWhole) a b d inner rest h = record { url = [] ++ value_read s a b; children = node_at (tree.text (value_read s a b)) nothing a b; is_link = refl }
links s p what a b d inner rest h = let z : ⊥ = cc in absurd z
