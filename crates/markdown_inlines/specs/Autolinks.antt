-- The parts so far of an autolink.
use Rattle.std.specs.Prelude.{◌≡◌, Bool, List, None, Option, Some, false, true, ℕ}
use Rattle.markdown_events.specs.declared.event.Point.{Point}
use Rattle.markdown_events.specs.declared.role.Content.{Content}
use Rattle.markdown_events.specs.declared.role.Content.TheVariants as contents
use Rattle.markdown_events.specs.declared.role.ItemKind.TheVariants as item_kinds
use Rattle.markdown_events.specs.declared.role.Part.TheVariants as parts
use Rattle.markdown_nodes.specs.Tree.{Trees, only}
use Rattle.markdown_nodes.specs.View.{view}
use Rattle.markdown_nodes.specs.declared.mdast.Node.{Node}
use Rattle.markdown_grammar.specs.Attributes.{Place}
use Rattle.markdown_grammar.specs.Document.{Given, Source, source_of, value_read}
use Rattle.markdown_grammar.specs.Grammar as models
use Rattle.markdown_grammar.specs.Nodes.{linked}
use Rattle.markdown_steps.specs.ChildFacts.{ChildFacts}
use Rattle.markdown_steps.specs.Summaries.{PartSummary, PartPath, Summary, address, into}
use Rattle.markdown_steps.specs.SummaryNodes
use Rattle.markdown_steps.specs.SummaryNodes.{node_of}
use Rattle.markdown_parts.specs.PartsSoFar.{PartsSoFar, ending, with_parts}
use Rattle.markdown_parts.specs.WholeValues.{value_text}
use Rattle.markdown_inlines.specs.declared.autolink.Address.{Address}
use Rattle.markdown_inlines.specs.declared.autolink.AutolinkParts.{AutolinkParts}
use Rattle.markdown_inlines.specs.declared.autolink.AutolinkParts.TheVariants as autolinks

-- the summary of an address, with its ends
abbrev pub address_kept : Address → Option PartSummary
address_kept x = Some (address x.start x.end (value_text x.value))

-- the address, if it is an email address
abbrev pub email_kept : AutolinkParts → Option PartSummary
email_kept (autolinks.Email x) = address_kept x
email_kept _ = None

-- the address, if it has a scheme
abbrev pub protocol_kept : AutolinkParts → Option PartSummary
protocol_kept (autolinks.Protocol x) = address_kept x
protocol_kept _ = None

-- the parts of an autolink
abbrev pub in_autolink : AutolinkParts → PartPath → Option PartSummary
in_autolink x (into parts.AutolinkEmail way) = ending (email_kept x) way
in_autolink x (into parts.AutolinkProtocol way) = ending (protocol_kept x) way
in_autolink x way = None

-- an autolink, with its parts
abbrev pub autolink : AutolinkParts → PartsSoFar
autolink x = with_parts models.autolink (in_autolink x)

-- the nodes of an autolink between two points
abbrev pub autolink_nodes : AutolinkParts → Point → Point → Trees
autolink_nodes x start end = SummaryNodes.autolink (email_kept x) (protocol_kept x) start end

-- an autolink literal
abbrev pub is_literal : Content → Bool
is_literal contents.AutolinkLiteralEmail = true
is_literal contents.AutolinkLiteralWww = true
is_literal contents.AutolinkLiteralWhole = true
is_literal _ = false

-- the node of such a literal is a link to it after this scheme, wherever it is
abbrev pub IsSchemeOf : Content → List ℕ → Type 0
IsSchemeOf content scheme =
    (s : Source) (p : Place) (a b : Point) (children : ChildFacts) (i : Summary)
    → node_of s p (item_kinds.Content content) a b children i ≡ linked scheme (value_read s a b) a b a b

-- a node is that of such a literal between two points, whatever its surroundings are
abbrev pub IsLiteral : Given → Content → Point → Point → Node → Type 0
IsLiteral given content start end made =
    (text : List ℕ → ℕ → Option (List ℕ)) (p : Place) (children : ChildFacts) (i : Summary)
    → only (view made) ≡ node_of (source_of given text) p (item_kinds.Content content) start end children i
