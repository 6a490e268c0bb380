-- Forests side by side, and lists of items one after the other.
use Rattle.std.proofs.Common.{◌≡◌, true, false, List, ◌∷◌, ◌++◌, append_assoc, Option, Some, refl, sym, ◌∙◌, ap, append_assoc}
use Rattle.std.proofs.Common.{cond}
use Rattle.std.specs.Prelude.{is_some}
use Rattle.std.specs.Option.{option_or}
use Rattle.markdown_nodes.proofs.Joining.{join_assoc}
use Rattle.markdown_events.specs.Forest.{Forest, empty, enter, exit, span, events_of}
use Rattle.markdown_events.specs.Names.{role_of}
use Rattle.markdown_steps.specs.ChildFacts.{child_facts_of}
use Rattle.markdown_nodes.specs.Tree.{join, nothing}
use Rattle.markdown_events.specs.declared.event.Event.{Event}
use Rattle.markdown_events.specs.declared.event.Point.{Point}
use Rattle.markdown_events.specs.declared.role.Part.{Part}
use Rattle.markdown_events.specs.declared.role.Role.{Role}
use Rattle.markdown_events.specs.declared.role.Role.TheVariants.{Transparent as transparent, Significant as significant}
use Rattle.markdown_grammar.specs.Accepted.{ends_with_break}
use Rattle.markdown_grammar.specs.Items.{Items, item, items, kinds, none, place_items, same_part, ◌then◌}
use Rattle.markdown_grammar.specs.Decorated.{node_at}
use Rattle.markdown_steps.specs.SummaryNodes.{node_of, nodes}
use Rattle.markdown_steps.specs.Summaries.{PartPath, FoundPart, first_part, summary_of, into, itself}
use Rattle.markdown_grammar.specs.Attributes.{Place, inherited_after, inherited_in}
use Rattle.markdown_grammar.specs.Document.{Source}
use Rattle.markdown_grammar.specs.Sites.{inherited_after_all}
use Rattle.markdown_nodes.specs.Tree as tree
use Rattle.markdown_events.specs.declared.role.Content.TheVariants as contents
use Rattle.markdown_events.specs.declared.role.ItemKind.TheVariants.{Content as content, Part as part}

pub then-assoc : (xs ys zs : Items) → (xs then ys) then zs ≡ xs then (ys then zs)
then-assoc none ys zs = refl
then-assoc (item w a b d i rest) ys zs = ap (item w a b d i) (then-assoc rest ys zs)

-- two forests side by side
abbrev pub beside : Forest → Forest → Forest
beside empty others = others
beside (span name start end children rest) others = span name start end children (beside rest others)

-- a span and what comes after it, without the brackets
pub regroup : (opening closing : Event) (inner back more : List Event) → ((opening ∷ inner) ++ (closing ∷ back)) ++ more ≡ opening ∷ (inner ++ (closing ∷ (back ++ more)))
regroup opening closing inner back more = ap (λ events. opening ∷ events) (append_assoc inner (closing ∷ back) more)

pub events_of-beside : (prefix back : Forest) → events_of (beside prefix back) ≡ events_of prefix ++ events_of back
events_of-beside empty back = refl
events_of-beside (span name a b children rest) back =
    ap (λ events. (enter name a ∷ events_of children) ++ (exit name b ∷ events)) (events_of-beside rest back)
    ∙ sym (append_assoc (enter name a ∷ events_of children) (exit name b ∷ events_of rest) (events_of back))

place-then : (r : Role) (a b : Point) (d : Forest) (i xs ys : Items) → place_items r a b d i (xs then ys) ≡ place_items r a b d i xs then ys
place-then (significant what) a b d i xs ys = refl
place-then (transparent k) a b d i xs ys = sym (then-assoc i xs ys)

-- the items of forests side by side are those of the first, then those of the second
pub items-beside : (prefix back : Forest) → items (beside prefix back) ≡ items prefix then items back
items-beside empty back = refl
items-beside (span name a b children rest) back =
    ap (λ xs. place_items (role_of name) a b children (items children) xs) (items-beside rest back)
    ∙ place-then (role_of name) a b children (items children) (items rest) (items back)

pub kinds-then : (xs ys : Items) → kinds (xs then ys) ≡ kinds xs ++ kinds ys
kinds-then none ys = refl
kinds-then (item what a b d i rest) ys = ap (λ kinds. what ∷ kinds) (kinds-then rest ys)

pub nodes-then : (s : Source) (p : Place) (xs ys : Items) → ends_with_break xs ≡ false → nodes s itself p (xs then ys) ≡ join (nodes s itself p xs) (nodes s itself (inherited_after_all xs p) ys)
nodes-then s p none ys h = refl
nodes-then s p (item (content contents.HardBreak) a b d i none) ys h = let z : ⊥ = cc in absurd z
nodes-then s p (item (content contents.HardBreak) a b d i (item (content contents.LineEnding) a' b' d' i' rest)) ys h =
    ap (λ t. join (node_at tree.«break» nothing a b') t) (nodes-then s p rest ys h) ∙ sym (join_assoc (node_at tree.«break» nothing a b') (nodes s itself p rest) (nodes s itself (inherited_after_all rest p) ys))
nodes-then s p (item what a b d i rest) ys h =
    ap (λ t. join (node_of s p what a b (child_facts_of d) (summary_of s (inherited_in what p) i (λ which. nodes s which (inherited_in what p) i))) t) (nodes-then s (inherited_after what p) rest ys h)
    ∙ sym (join_assoc (node_of s p what a b (child_facts_of d) (summary_of s (inherited_in what p) i (λ which. nodes s which (inherited_in what p) i))) (nodes s itself (inherited_after what p) rest) (nodes s itself (inherited_after_all rest (inherited_after what p)) ys))

pub within-then : (s : Source) (q : Part) (way : PartPath) (p from : Place) (xs ys : Items) → nodes s (into q way) p (xs then ys) ≡ cond (is_some (first_part q from xs)) (nodes s (into q way) p xs) (nodes s (into q way) p ys)
within-then s q way p from none ys = refl
within-then s q way p from (item (part r) a b d i rest) ys =
    elim (same_part q r) as (λ t. elim t [ true ↦ nodes s way (inherited_in (part r) p) i | false ↦ nodes s (into q way) p (rest then ys) ]
    ≡ cond (is_some (cond {A = Option FoundPart} t (Some (record { start = a; end = b; place = from; inner = i })) (first_part q (inherited_after (part r) from) rest)))
    (elim t [ true ↦ nodes s way (inherited_in (part r) p) i | false ↦ nodes s (into q way) p rest ]) (nodes s (into q way) p ys)) [
      | true ↦ refl
      | false ↦ within-then s q way p (inherited_after (part r) from) rest ys
    ]
within-then s q way p from (item (content c) a b d i rest) ys = within-then s q way p (inherited_after (content c) from) rest ys

pub first_part-then : (q : Part) (p : Place) (xs ys : Items) → first_part q p (xs then ys) ≡ option_or (first_part q p xs) (first_part q (inherited_after_all xs p) ys)
first_part-then q p none ys = refl
first_part-then q p (item (part r) a b d i rest) ys =
    elim (same_part q r) as (λ t. cond {A = Option FoundPart} t (Some (record { start = a; end = b; place = p; inner = i })) (first_part q (inherited_after (part r) p) (rest then ys))
    ≡ option_or (cond t (Some (record { start = a; end = b; place = p; inner = i })) (first_part q (inherited_after (part r) p) rest)) (first_part q (inherited_after_all rest (inherited_after (part r) p)) ys)) [
      | true ↦ refl
      | false ↦ first_part-then q (inherited_after (part r) p) rest ys
    ]
first_part-then q p (item (content c) a b d i rest) ys = first_part-then q (inherited_after (content c) p) rest ys
