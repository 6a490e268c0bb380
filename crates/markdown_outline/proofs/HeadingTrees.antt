-- A tree of the events that the filter passes on has the outline of the whole.
use Rattle.std.proofs.Common.{◌≡◌, true, List, sym, ◌∙◌, ap}
use Rattle.markdown_events.proofs.Unique.{one_forest}
use Rattle.markdown_events.specs.Forest.{Forest, events_of}
use Rattle.markdown_events.specs.declared.event.Event.{Event}
use Rattle.markdown_events.specs.declared.message.Message.{Message}
use Rattle.markdown_grammar.specs.Accepted.{Accepted}
use Rattle.markdown_grammar.specs.Correct.{IsMeaning, Refuses}
use Rattle.markdown_grammar.specs.Document.{Source}
use Rattle.markdown_grammar.specs.Meaning.{meaning}
use Rattle.markdown_nodes.specs.View.{view}
use Rattle.markdown_nodes.specs.declared.mdast.Node.{Node}
use Rattle.markdown_outline.proofs.HeadingFiltering.{filtered-is, loses-is}
use Rattle.markdown_outline.proofs.HeadingOutlines.{outline-headings}
use Rattle.markdown_outline.proofs.HeadingsAccepted.{accepted-headings}
use Rattle.markdown_outline.specs.HeadingFilter.{filtered, loses_none, outside}
use Rattle.markdown_outline.specs.Headings.{headings}
use Rattle.mdast_util.specs.Outline.{outline_of}

-- the events that are passed on are those of the headings
passed-on : (events : List Event) (f : Forest) → events_of f ≡ events → loses_none outside events ≡ true → events_of (headings f) ≡ filtered outside events
passed-on events f e h = sym (filtered-is f (sym (loses-is f) ∙ ap (loses_none outside) e ∙ h)) ∙ ap (filtered outside) e

-- the outline of a tree of the events that are passed on is that of all events
pub outline-passed : (s : Source) (events : List Event) (tree : Node) (f : Forest) → events_of f ≡ events → loses_none outside events ≡ true → IsMeaning tree (filtered outside events) s
    → outline_of (view tree) ≡ outline_of (meaning s f)
outline-passed s events tree f e h m =
    let same : m.forest ≡ headings f = one_forest m.forest (headings f) (m.from_events ∙ sym (passed-on events f e h)) in
    ap outline_of (m.is_meaning ∙ ap (meaning s) same)
    ∙ outline-headings s f (sym (loses-is f) ∙ ap (loses_none outside) e ∙ h)

-- no message refuses them
pub never-refused : (s : Source) (events : List Event) (message : Message) (f : Forest) → events_of f ≡ events → loses_none outside events ≡ true → Accepted s f → Refuses message (filtered outside events) s → ⊥
never-refused s events message f e h accepted r =
    r.is_refused.none_accepted (headings f) (passed-on events f e h) (accepted-headings s f (sym (loses-is f) ∙ ap (loses_none outside) e ∙ h) accepted)
