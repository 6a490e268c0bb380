-- What comes up at the exit of a part, in the program and in the steps.
use Rattle.std.proofs.Common.{◌≡◌, ◌≢◌, Bool, true, false, List, Option, None, Result, Ok, Err, Vec, Global, refl, sym, ap, subst, ◌∙◌, ℕ}
use Rattle.markdown_containers.specs.Containers.{Keeps, KeepsPart, current_model_of, initial_model_of, is_part_model, summary_with}
use Rattle.markdown_containers.specs.ContainerStates.{Gives, container_state_of, ended_with, place_of}
use Rattle.markdown_containers.specs.declared.container.Container.{Container}
use Rattle.markdown_containers.specs.declared.container.Container.TheVariants as containers
use Rattle.markdown_containers.specs.declared.open_container.OpenContainer.{OpenContainer}
use Rattle.markdown_events.specs.declared.event.Point.{Point}
use Rattle.markdown_events.specs.declared.role.ItemKind.TheVariants.{Part as part}
use Rattle.markdown_events.specs.declared.role.Part.{Part}
use Rattle.markdown_events.specs.declared.role.Part.TheVariants as parts
use Rattle.markdown_grammar.specs.Attributes.{Place, line_ending_is_text_after}
use Rattle.markdown_grammar.specs.Document.{Given, Source, given_of, source_of}
use Rattle.markdown_grammar.specs.Grammar as models
use Rattle.markdown_grammar.specs.Grammar.{ContentModel, leaf}
use Rattle.markdown_grammar.specs.Values.{is_read}
use Rattle.markdown_grammar.specs.declared.error_kind.ErrorKind.{ErrorKind}
use Rattle.markdown_grammar.specs.declared.error_kind.Stop.{Stop}
use Rattle.markdown_grammar.specs.declared.error_kind.Stop.TheVariants as stops
use Rattle.markdown_nodes.proofs.Joining.{join-nothing}
use Rattle.markdown_nodes.specs.Tree.{Trees, join, nothing}
use Rattle.markdown_nodes.specs.View.{views}
use Rattle.markdown_nodes.specs.declared.mdast.Node.{Node}
use Rattle.markdown_steps.specs.ChildFacts.{ChildFacts}
use Rattle.markdown_steps.specs.Checks.{refused}
use Rattle.markdown_steps.specs.Compiler.{all_stood, fresh, leave, nothing_yet}
use Rattle.markdown_steps.specs.Summaries.{Summary}
use Rattle.markdown_steps.specs.SummaryNodes.{node_of}
use Rattle.markdown_containers.proofs.LeafEnds.{leaf_in, leaf_unread}
use Rattle.markdown_containers.proofs.SpanEnds.{part_left, part_unread}

-- ---- Parts in which nothing stands

-- one gives no node
no_node : (s : Source) (p : Place) (q : Part) (a b : Point) (children : ChildFacts) → node_of s p (part q) a b children nothing_yet ≡ nothing
no_node s p parts.HeadingSetextText a b children = refl
no_node s p q a b children = refl

-- one goes into its container, and gives no nodes
part_in : (s : Source) (in_table : Bool) (top new : OpenContainer) (q : Part) (a b : Point) (children : ChildFacts) (place : Place)
    → Keeps s (place_of in_table top) (part q) a b nothing_yet top.container new.container → new.line_endings ≡ line_ending_is_text_after (part q) top.line_endings
    → new.nodes ≡ top.nodes → is_read s (current_model_of top.container) (place_of in_table top) false (part q) a b ≡ true
    → leave s (part q) a b children (fresh leaf place) (container_state_of in_table None top) ≡ Ok (container_state_of in_table None new)
part_in s in_table top new q a b children place keeps ending same read =
    leaf_in s in_table top new (part q) a b children place keeps ending
    (ap (λ (ns : Vec Node Global). views ns.items) same ∙ sym (ap (join (views top.nodes.items)) (no_node s (place_of in_table top) q a b children) ∙ join-nothing (views top.nodes.items))) refl read

-- one is read and kept, or refused as it cannot be read
pub leaf_part_taken : (s : Source) (in_table : Bool) (top new : OpenContainer) (q : Part) (a b : Point) (children : ChildFacts) (place : Place) (r : Result (Unit {0}) Stop)
    → KeepsPart s q a b nothing_yet top.container new.container r → new.line_endings ≡ line_ending_is_text_after (part q) top.line_endings → new.nodes ≡ top.nodes
    → Gives (λ _. container_state_of in_table None new) b r (leave s (part q) a b children (fresh leaf place) (container_state_of in_table None top))
leaf_part_taken s in_table top new q a b children place (Ok x) kept ending same =
    let here = kept top.line_endings in_table in
    part_in s in_table top new q a b children place here.1 ending same here.0
leaf_part_taken s in_table top new q a b children place (Err (stops.Memory error)) kept ending same = tt
leaf_part_taken s in_table top new q a b children place (Err (stops.Refused why)) kept ending same =
    let here = kept top.line_endings in_table in
    leaf_unread s in_table None top (part q) a b children place here.0 ∙ ap (λ (x : ErrorKind). refused x b) (sym here.1)

-- ---- Parts in which content stood

-- one but the text of a heading changes nothing of line endings, and gives no node
text_after : (q : Part) (before : Bool) → is_part_model q models.any_content ≡ true → q ≢ parts.HeadingSetextText → before ≡ line_ending_is_text_after (part q) before
text_after parts.CodeFencedFence before such other = let z : ⊥ = cc in absurd z
text_after parts.MathFlowFence before such other = let z : ⊥ = cc in absurd z
text_after parts.HeadingSetextText before such other = absurd (other refl)
text_after q before such other = refl

text_node : (s : Source) (p : Place) (q : Part) (a b : Point) (children : ChildFacts) (i : Summary) (ts : Trees) → q ≢ parts.HeadingSetextText → ts ≡ join ts (node_of s p (part q) a b children i)
text_node s p parts.HeadingSetextText a b children i ts other = absurd (other refl)
text_node s p q a b children i ts other = sym (join-nothing ts)

-- one is read and kept, or refused as it cannot be read
text_taken : (s : Source) (in_table : Bool) (top new : OpenContainer) (q : Part) (ts : Trees) (a b : Point) (children : ChildFacts) (place : Place) (r : Result (Unit {0}) Stop)
    → is_part_model q models.any_content ≡ true → q ≢ parts.HeadingSetextText
    → KeepsPart s q a b (summary_with containers.AnyContent ts) top.container new.container r → new.line_endings ≡ top.line_endings → new.nodes ≡ top.nodes
    → Gives (λ _. container_state_of in_table None new) b r (leave s (part q) a b children (ended_with models.any_content place (summary_with containers.AnyContent ts)) (container_state_of in_table None top))
text_taken s in_table top new q ts a b children place (Ok x) such other kept ending same =
    let here = kept top.line_endings in_table in
    part_left s in_table top new models.any_content place (summary_with containers.AnyContent ts) q a b children refl here.0 here.1
    (ending ∙ text_after q top.line_endings such other)
    (ap (λ (ns : Vec Node Global). views ns.items) same ∙ text_node s (place_of in_table top) q a b children (summary_with containers.AnyContent ts) (views top.nodes.items) other)
text_taken s in_table top new q ts a b children place (Err (stops.Memory error)) such other kept ending same = tt
text_taken s in_table top new q ts a b children place (Err (stops.Refused why)) such other kept ending same =
    let here = kept top.line_endings in_table in
    part_unread s in_table top models.any_content place (summary_with containers.AnyContent ts) q a b children refl here.0 ∙ ap (λ (x : ErrorKind). refused x b) (sym here.1)

-- the same over any source of this document
pub text_is_taken : (s : Source) (given : Given) (in_table : Bool) (top new : OpenContainer) (q : Part) (ts : Trees) (a b : Point) (children : ChildFacts) (place : Place) (r : Result (Unit {0}) Stop)
    → given_of s ≡ given → is_part_model q models.any_content ≡ true → q ≢ parts.HeadingSetextText
    → ((text : List ℕ → ℕ → Option (List ℕ)) → KeepsPart (source_of given text) q a b (summary_with containers.AnyContent ts) top.container new.container r) → new.line_endings ≡ top.line_endings → new.nodes ≡ top.nodes
    → Gives (λ _. container_state_of in_table None new) b r (leave s (part q) a b children (ended_with models.any_content place (summary_with containers.AnyContent ts)) (container_state_of in_table None top))
text_is_taken s given in_table top new q ts a b children place r is such other kept ending same =
    let this : source_of given s.text ≡ s = λ t. source_of (sym is t) s.text in
    text_taken s in_table top new q ts a b children place r such other
    (subst (λ (x : Source). KeepsPart x q a b (summary_with containers.AnyContent ts) top.container new.container r) this (kept s.text)) ending same

-- ---- Parts with parts of their own

-- what is no container of any content has another content model
other_model : (h : Container) → h ≢ containers.AnyContent → initial_model_of h ≢ models.any_content
other_model containers.AnyContent other is = other refl
other_model h other is = let z : ⊥ = cc in z

-- nothing of them is read, nothing has to stand in them, and they give no node
parts_read : (s : Source) (h m : ContentModel) (p : Place) (q : Part) (a b : Point) → is_part_model q m ≡ true → m ≢ models.any_content → is_read s h p false (part q) a b ≡ true
parts_read s h m p parts.Resource a b such other = refl
parts_read s h m p parts.Reference a b such other = refl
parts_read s h m p parts.CodeFencedFence a b such other = refl
parts_read s h m p parts.MathFlowFence a b such other = refl
parts_read s h models.any_content p q a b such other = absurd (other refl)
parts_read s h m p q a b such other = let z : ⊥ = cc in absurd z

parts_stood : (q : Part) (m : ContentModel) (i : Summary) → is_part_model q m ≡ true → all_stood m i ≡ true
parts_stood parts.Resource models.resource i such = refl
parts_stood parts.Reference models.reference i such = refl
parts_stood parts.CodeFencedFence models.code_fence i such = refl
parts_stood parts.MathFlowFence models.math_fence i such = refl
parts_stood q models.any_content i such = refl
parts_stood q m i such = let z : ⊥ = cc in absurd z

parts_node : (s : Source) (p : Place) (m : ContentModel) (q : Part) (a b : Point) (children : ChildFacts) (i : Summary) (ts : Trees) → is_part_model q m ≡ true → m ≢ models.any_content → ts ≡ join ts (node_of s p (part q) a b children i)
parts_node s p models.any_content parts.HeadingSetextText a b children i ts such other = absurd (other refl)
parts_node s p m parts.HeadingSetextText a b children i ts such other = let z : ⊥ = cc in absurd z
parts_node s p m q a b children i ts such other = sym (join-nothing ts)

-- one goes into its container
pub parts_taken : (s : Source) (in_table : Bool) (top new : OpenContainer) (inner : Container) (q : Part) (ts : Trees) (a b : Point) (children : ChildFacts) (place : Place)
    → is_part_model q (initial_model_of inner) ≡ true → inner ≢ containers.AnyContent
    → Keeps s (place_of in_table top) (part q) a b (summary_with inner ts) top.container new.container → new.line_endings ≡ line_ending_is_text_after (part q) top.line_endings → new.nodes ≡ top.nodes
    → leave s (part q) a b children (ended_with (initial_model_of inner) place (summary_with inner ts)) (container_state_of in_table None top) ≡ Ok (container_state_of in_table None new)
parts_taken s in_table top new inner q ts a b children place such other keeps ending same =
    let m : ContentModel = initial_model_of inner in
    let another : m ≢ models.any_content = other_model inner other in
    part_left s in_table top new m place (summary_with inner ts) q a b children
    (parts_stood q m (summary_with inner ts) such)
    (parts_read s (current_model_of top.container) m (place_of in_table top) q a b such another) keeps ending
    (ap (λ (ns : Vec Node Global). views ns.items) same ∙ parts_node s (place_of in_table top) m q a b children (summary_with inner ts) (views top.nodes.items) such another)
