-- What comes up at the exit of a span, in the program and in the steps.
use Rattle.std.proofs.Common.{◌≡◌, ◌≢◌, ℕ, List, Bool, true, false, Option, None, Some, Result, Ok, Err, refl, sym, ap, ◌∙◌, cond}
use Rattle.markdown_events.specs.Slices.{between}
use Rattle.markdown_steps.specs.ChildFacts.{ChildFacts}
use Rattle.markdown_nodes.specs.Tree.{Label, Tree, Trees, join, node, nothing, only}
use Rattle.markdown_nodes.specs.Tree as tree
use Rattle.markdown_nodes.specs.View.{views}
use Rattle.markdown_events.specs.declared.event.Point.{Point}
use Rattle.markdown_events.specs.declared.role.ItemKind.{ItemKind}
use Rattle.markdown_events.specs.declared.role.ItemKind.TheVariants.{Content as content, Part as part}
use Rattle.markdown_events.specs.declared.role.Content.{Content}
use Rattle.markdown_events.specs.declared.role.Content.TheVariants as contents
use Rattle.markdown_events.specs.declared.role.Part.{Part}
use Rattle.markdown_nodes.proofs.Joining.{join-nothing}
use Rattle.markdown_containers.specs.declared.open_container.OpenContainer.{OpenContainer}
use Rattle.markdown_grammar.specs.declared.error_kind.ErrorKind.{ErrorKind}
use Rattle.markdown_steps.specs.Compiler.{ContainerState, with_child, leave}
use Rattle.markdown_grammar.specs.Refusals.{missing_error, value_error}
use Rattle.markdown_steps.specs.Compiler.{all_stood}
use Rattle.markdown_grammar.specs.Grammar.{ContentModel, any_content}
use Rattle.markdown_containers.specs.Containers.{Keeps, is_model_of, current_model_of, initial_model_of}
use Rattle.markdown_blocks.specs.Parents.{is_parent, parent_label}
use Rattle.markdown_parts.specs.PartsSoFar.{placed}
use Rattle.markdown_grammar.specs.Items.{is_hard_break}
use Rattle.markdown_grammar.specs.Nodes.{Media, image_label, link_label}
use Rattle.markdown_steps.specs.SummaryNodes.{autolink}
use Rattle.markdown_grammar.specs.Nodes.{frontmatter}
use Rattle.markdown_steps.specs.SummaryNodes.{node_of}
use Rattle.markdown_steps.specs.Summaries.{Summary, PartSummary, address}
use Rattle.markdown_grammar.specs.Attributes.{Place, line_ending_is_text_after}
use Rattle.markdown_grammar.specs.Values.{is_read}
use Rattle.markdown_grammar.specs.Refusals.{ErrorAt}
use Rattle.markdown_steps.specs.Checks.{refused}
use Rattle.markdown_grammar.specs.Document.{Source}
use Rattle.markdown_grammar.specs.declared.error_kind.Stop.{Stop}
use Rattle.markdown_grammar.specs.declared.error_kind.Stop.TheVariants as stops
use Rattle.markdown_containers.specs.ContainerStates.{Stops, ended_with, container_state_of, summary_of_container, place_of}
use Rattle.markdown_parts.specs.PartsSoFar.{Makes}
use Rattle.markdown_steps.specs.Consequences.{is_text}

-- what one more item makes of a container, where no break is before it and it is none
pub with_child_is : (s : Source) (in_table : Bool) (top new : OpenContainer) (what : ItemKind) (a b : Point) (children : ChildFacts) (i : Summary)
    → Keeps s (place_of in_table top) what a b i top.container new.container → new.line_endings ≡ line_ending_is_text_after what top.line_endings
    → views new.nodes.items ≡ join (views top.nodes.items) (node_of s (place_of in_table top) what a b children i) → is_hard_break what ≡ false
    → with_child s (container_state_of in_table None top) what a b children i ≡ container_state_of in_table None new
with_child_is s in_table top new what a b children i keeps ending made no_break = λ t. record {
  initial_model = sym keeps.initial_model t;
  model = sym keeps.current_model t;
  place = record { line_endings = sym ending t; in_table = in_table; marker = sym keeps.marker t };
  after_break = no_break t;
  inner = record { nodes = sym made t; label = sym keeps.label t; part = λ way. sym (keeps.kept way) t; mark = sym keeps.mark t; value = sym keeps.value t };
}

-- content that has a content model of its own is no break, and no value of its own is read
row_no_break : (c : Content) (r : ContentModel) → is_model_of c r ≡ true → is_hard_break (content c) ≡ false
row_no_break contents.HardBreak r h = let z : ⊥ = cc in absurd z
row_no_break c r h = refl

row_read : (s : Source) (h : ContentModel) (p : Place) (after_break : Bool) (c : Content) (a b : Point) (r : ContentModel) → is_model_of c r ≡ true → is_read s h p after_break (content c) a b ≡ true
row_read s h p after_break contents.Data a b r such = let z : ⊥ = cc in absurd z
row_read s h p after_break contents.AutolinkLiteralEmail a b r such = let z : ⊥ = cc in absurd z
row_read s h p after_break contents.AutolinkLiteralWww a b r such = let z : ⊥ = cc in absurd z
row_read s h p after_break contents.AutolinkLiteralWhole a b r such = let z : ⊥ = cc in absurd z
row_read s h p after_break contents.LineEnding a b r such = let z : ⊥ = cc in absurd z
row_read s h p after_break c a b r such = refl

-- content goes into its container, if what has to stand in it does
pub content_left : (s : Source) (in_table inner_table : Bool) (top own new : OpenContainer) (c : Content) (a b : Point) (children : ChildFacts)
    → is_model_of c (initial_model_of own.container) ≡ true → all_stood (initial_model_of own.container) (summary_of_container own) ≡ true
    → Keeps s (place_of in_table top) (content c) a b (summary_of_container own) top.container new.container → new.line_endings ≡ top.line_endings
    → views new.nodes.items ≡ join (views top.nodes.items) (node_of s (place_of in_table top) (content c) a b children (summary_of_container own))
    → leave s (content c) a b children (container_state_of inner_table None own) (container_state_of in_table None top) ≡ Ok (container_state_of in_table None new)
unfolding leave
content_left s in_table inner_table top own new c a b children such complete keeps ending made =
    let initial_model : ContentModel = initial_model_of own.container in
    let out : Result ContainerState ErrorAt = Ok (with_child s (container_state_of in_table None top) (content c) a b children (summary_of_container own)) in
    (λ t. cond (complete t) (cond (row_read s (container_state_of in_table None top).model (place_of in_table top) false c a b initial_model such t) out (refused (value_error s (content c) a b) b)) (refused (missing_error initial_model) b))
    ∙ ap Ok (with_child_is s in_table top new (content c) a b children (summary_of_container own) keeps ending made (row_no_break c initial_model such))

-- and else it is refused
pub content_lacks : (s : Source) (in_table inner_table : Bool) (top own : OpenContainer) (c : Content) (a b : Point) (children : ChildFacts)
    → all_stood (initial_model_of own.container) (summary_of_container own) ≡ false
    → leave s (content c) a b children (container_state_of inner_table None own) (container_state_of in_table None top) ≡ refused (missing_error (initial_model_of own.container)) b
unfolding leave
content_lacks s in_table inner_table top own c a b children lacks =
    let read : Bool = is_read s (container_state_of in_table None top).model (place_of in_table top) false (content c) a b in
    λ t. cond (lacks t) (cond read (Ok (with_child s (container_state_of in_table None top) (content c) a b children (summary_of_container own))) (refused (value_error s (content c) a b) b)) (refused (missing_error (initial_model_of own.container)) b)

-- ---- Parents

-- what a parent gives, and its content model
pub parent_made : (s : Source) (p : Place) (c : Content) (a b : Point) (children : ChildFacts) (i : Summary) → is_parent c ≡ true → node_of s p (content c) a b children i ≡ only (placed (parent_label c) i.nodes (between a b))
parent_made s p contents.BlockQuote a b children i such = refl
parent_made s p contents.Emphasis a b children i such = refl
parent_made s p contents.Strong a b children i such = refl
parent_made s p contents.Strikethrough a b children i such = refl
parent_made s p contents.Paragraph a b children i such = refl
parent_made s p contents.TableRow a b children i such = refl
parent_made s p contents.TableCell a b children i such = refl
parent_made s p c a b children i such = let z : ⊥ = cc in absurd z

pub parent_row : (c : Content) → is_parent c ≡ true → is_model_of c any_content ≡ true
parent_row contents.BlockQuote such = refl
parent_row contents.Emphasis such = refl
parent_row contents.Strong such = refl
parent_row contents.Strikethrough such = refl
parent_row contents.Paragraph such = refl
parent_row contents.TableRow such = refl
parent_row contents.TableCell such = refl
parent_row c such = let z : ⊥ = cc in absurd z

-- ---- The label of a node

abbrev first_label : Label → Trees → Label
first_label other nothing = other
first_label other (node label children position rest) = label

link_no_text : (m : Media) → is_text (link_label m) ≡ false
link_no_text m = by-resource m.resource
  where
    by-resource : (r : Option (List ℕ × Option (List ℕ))) → is_text (elim r [ Some x ↦ tree.link x.0 x.1 | None ↦ tree.link_reference m.kind m.identifier (Some m.label) ]) ≡ false
    by-resource (Some x) = refl
    by-resource None = refl

image_no_text : (alt : List ℕ) (m : Media) → is_text (image_label alt m) ≡ false
image_no_text alt m = by-resource m.resource
  where
    by-resource : (r : Option (List ℕ × Option (List ℕ))) → is_text (elim r [ Some x ↦ tree.image alt x.0 x.1 | None ↦ tree.image_reference alt m.kind m.identifier (Some m.label) ]) ≡ false
    by-resource (Some x) = refl
    by-resource None = refl

autolink_no_text : (x y : Option PartSummary) (a b : Point) → is_text (first_label tree.thematic_break (autolink x y a b)) ≡ false
autolink_no_text (Some (address from to value)) y a b = refl
autolink_no_text x (Some (address from to value)) a b = refl
autolink_no_text x y a b = refl

frontmatter_no_text : (is_toml : Bool) (value : List ℕ) → is_text (frontmatter is_toml value) ≡ false
frontmatter_no_text true value = refl
frontmatter_no_text false value = refl

node_no_text : (s : Source) (p : Place) (c : Content) (a b : Point) (children : ChildFacts) (i : Summary) (r : ContentModel) → is_model_of c r ≡ true → c ≢ contents.CharacterReference
    → is_text (first_label tree.thematic_break (node_of s p (content c) a b children i)) ≡ false
node_no_text s p contents.Data a b children i r such other = let z : ⊥ = cc in absurd z
node_no_text s p contents.LineEnding a b children i r such other = let z : ⊥ = cc in absurd z
node_no_text s p contents.CharacterReference a b children i r such other = absurd (other refl)
node_no_text s p contents.Autolink a b children i r such other = autolink_no_text _ _ a b
node_no_text s p contents.Link a b children i r such other = link_no_text _
node_no_text s p contents.Image a b children i r such other = image_no_text _ _
node_no_text s p contents.Frontmatter a b children i r such other = frontmatter_no_text _ _
node_no_text s p c a b children i r such other = refl

-- the node of content that has a content model of its own, but of a character reference, is no text
pub made_no_text : (s : Source) (p : Place) (c : Content) (a b : Point) (children : ChildFacts) (i : Summary) (r : ContentModel) (t : Tree) → is_model_of c r ≡ true → c ≢ contents.CharacterReference
    → only t ≡ node_of s p (content c) a b children i → is_text t.label ≡ false
made_no_text s p c a b children i r t such other made = ap (λ (ts : Trees). is_text (first_label tree.thematic_break ts)) made ∙ node_no_text s p c a b children i r such other

-- in a character reference not any content may stand
pub no_reference : (c : Content) → is_model_of c any_content ≡ true → c ≢ contents.CharacterReference
no_reference contents.CharacterReference such is = let z : ⊥ = cc in absurd z
no_reference c such is = let z : ⊥ = cc in absurd z

-- a thing that is not made: what has to stand there does not, or memory ran out
pub unmade_stops : {X Y : Type 0} (stop : Stop) (complete : Bool) (why : ErrorKind) (Is : X → Type 0) (b : Point) (expected : Result Y ErrorAt)
    → Makes (Err stop) complete why Is → (complete ≡ false → expected ≡ refused why b) → Stops stop b expected
unmade_stops (stops.Memory error) complete why Is b expected made lacks = tt
unmade_stops (stops.Refused error_kind) complete why Is b expected made lacks = lacks made.0 ∙ ap (λ (x : ErrorKind). refused x b) (sym made.1)

-- ---- Parts

-- a part goes into its container
pub part_left : (s : Source) (in_table : Bool) (top new : OpenContainer) (initial_model : ContentModel) (place : Place) (i : Summary) (q : Part) (a b : Point) (children : ChildFacts)
    → all_stood initial_model i ≡ true → is_read s (current_model_of top.container) (place_of in_table top) false (part q) a b ≡ true
    → Keeps s (place_of in_table top) (part q) a b i top.container new.container → new.line_endings ≡ line_ending_is_text_after (part q) top.line_endings
    → views new.nodes.items ≡ join (views top.nodes.items) (node_of s (place_of in_table top) (part q) a b children i)
    → leave s (part q) a b children (ended_with initial_model place i) (container_state_of in_table None top) ≡ Ok (container_state_of in_table None new)
unfolding leave
part_left s in_table top new initial_model place i q a b children complete read keeps ending made =
    let out : Result ContainerState ErrorAt = Ok (with_child s (container_state_of in_table None top) (part q) a b children i) in
    (λ t. cond (complete t) (cond (read t) out (refused (value_error s (part q) a b) b)) (refused (missing_error initial_model) b))
    ∙ ap Ok (with_child_is s in_table top new (part q) a b children i keeps ending made refl)

-- a part whose value is not there
pub part_unread : (s : Source) (in_table : Bool) (top : OpenContainer) (initial_model : ContentModel) (place : Place) (i : Summary) (q : Part) (a b : Point) (children : ChildFacts)
    → all_stood initial_model i ≡ true → is_read s (current_model_of top.container) (place_of in_table top) false (part q) a b ≡ false
    → leave s (part q) a b children (ended_with initial_model place i) (container_state_of in_table None top) ≡ refused (value_error s (part q) a b) b
unfolding leave
part_unread s in_table top initial_model place i q a b children complete read =
    let out : Result ContainerState ErrorAt = Ok (with_child s (container_state_of in_table None top) (part q) a b children i) in
    λ t. cond (complete t) (cond (read t) out (refused (value_error s (part q) a b) b)) (refused (missing_error initial_model) b)
