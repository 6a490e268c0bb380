-- What an outcome says of lines, from what the compiler says of their events.
use Rattle.std.proofs.Common.{◌≡◌, ℕ, List, Option, Some, None, ap, subst, sym, ◌∙◌}
use Rattle.std.specs.Prelude.{IfSome, IsSomeAnd, option_map}
use Rattle.markdown_events.specs.declared.event.Event.{Event}
use Rattle.markdown_events.specs.declared.message.Message.{Message}
use Rattle.markdown_events.specs.declared.message.Place.{Place}
use Rattle.markdown_events.specs.declared.unist.Point.{Point}
use Rattle.markdown_events.specs.Messages.{start_of}
use Rattle.event_lines.specs.Lines.{lines}
use Rattle.markdown_nodes.specs.declared.mdast.Node.{Node}
use Rattle.markdown_nodes.specs.Tree.{only}
use Rattle.markdown_nodes.specs.View.{view}
use Rattle.markdown_json.specs.Json.{json}
use Rattle.markdown_grammar.specs.Correct.{IsMeaning, Refuses}
use Rattle.markdown_grammar.specs.Ordered.{IsOrdered, NeverGoesBack}
use Rattle.mdast_programs.specs.declared.outcomes.Outcome.{Outcome}
use Rattle.mdast_programs.specs.Outcomes.{IsJsonOf, IsRefusal, IsRefusalOf, IsTree, over, point_of}

-- what holds of the events holds of the lines that say them
of_lines : (P : List Event → Type 0) (said : List ℕ) (events : List Event)
    → lines said ≡ Some events → P events → IsSomeAnd (lines said) P
of_lines P said events are p = subst (λ o. IsSomeAnd o P) (sym are) p

-- a place that is there begins where the outcome says
begins : (place : Option Place) (there : Place) (point : Point)
    → place ≡ Some there → IfSome place (λ p. point ≡ start_of p) → option_map start_of place ≡ Some point
begins None there point is same = let z : ⊥ = cc in absurd z
begins (Some p) there point is same = ap Some (sym same)

pub tree_said : (outcome : Outcome) (tree : Node) (said document table : List ℕ) {references : List ℕ} {events items : List Event}
    → lines said ≡ Some items → events ≡ items → table ≡ references
    → IsMeaning tree events (over document table) → (NeverGoesBack events → IsOrdered (only (view tree)))
    → outcome.text.now ≡ json (view tree) → IsTree outcome said (over document references)
tree_said outcome tree said document table {references} {events} are same text meaning ordered is_json =
    of_lines (λ es. IsJsonOf outcome.text.now es (over document references)) said events (are ∙ ap Some (sym same))
    (record {
      tree = tree;
      is_meaning = subst (λ (t : List ℕ). IsMeaning tree events (over document t)) text meaning;
      is_ordered = ordered;
      is_json = is_json;
    })

pub refusal_said : (outcome : Outcome) (message : Message) (said document table : List ℕ) {references : List ℕ} {events items : List Event}
    → lines said ≡ Some items → events ≡ items → table ≡ references
    → Refuses message events (over document table)
    → outcome.rule.now ≡ message.rule_id.now → outcome.reason.now ≡ message.reason.now
    → IfSome message.place (λ place. point_of outcome ≡ start_of place) → IsRefusal outcome said (over document references)
refusal_said outcome message said document table {references} {events} are same text refuses rule reason point =
    of_lines (λ es. IsRefusalOf outcome es (over document references)) said events (are ∙ ap Some (sym same))
    (record {
      message = message;
      refuses = subst (λ (t : List ℕ). Refuses message events (over document t)) text refuses;
      rule = rule;
      reason = reason;
      point = begins message.place _ (point_of outcome) refuses.says.place point;
    })
