-- What comes up at the exit of a leaf, in the program and in the steps.
use Rattle.std.proofs.Common.{◌≡◌, Bool, true, false, Option, None, Some, Result, Ok, refl, sym, ap, subst, ◌∙◌, cond}
use Rattle.std.specs.Prelude.{is_some, not, ◌&&◌, ◌||◌}
use Rattle.markdown_events.specs.Slices.{between, slice, to_unist}
use Rattle.markdown_steps.specs.ChildFacts.{ChildFacts}
use Rattle.markdown_nodes.specs.Tree.{Label, Tree, Trees, join, node, nothing, only, «break», thematic_break}
use Rattle.markdown_nodes.specs.View.{views}
use Rattle.markdown_nodes.proofs.Joining.{join-nothing}
use Rattle.markdown_events.specs.declared.event.Point.{Point}
use Rattle.markdown_events.specs.declared.unist.Position.{Position}
use Rattle.markdown_events.specs.declared.role.ItemKind.{ItemKind}
use Rattle.markdown_events.specs.declared.role.ItemKind.TheVariants.{Content as content}
use Rattle.markdown_events.specs.declared.role.Content.{Content}
use Rattle.markdown_events.specs.declared.role.Content.TheVariants as contents
use Rattle.markdown_containers.specs.declared.container.Container.{Container}
use Rattle.markdown_containers.specs.declared.open_container.OpenContainer.{OpenContainer}
use Rattle.markdown_steps.specs.Compiler.{ContainerState, with_child, fresh, leave, lengthened, nothing_yet}
use Rattle.markdown_grammar.specs.LineEndings.{ending_read}
use Rattle.markdown_grammar.specs.Refusals.{value_error}
use Rattle.markdown_grammar.specs.Grammar.{leaf}
use Rattle.markdown_containers.specs.Containers.{Keeps, current_model_of}
use Rattle.markdown_inlines.specs.Autolinks.{is_literal}
use Rattle.markdown_grammar.specs.Items.{is_hard_break, is_line_ending}
use Rattle.markdown_steps.specs.SummaryNodes.{node_of}
use Rattle.markdown_steps.specs.Summaries.{Summary}
use Rattle.markdown_grammar.specs.Attributes.{Place, line_ending_is_text_after}
use Rattle.markdown_grammar.specs.Values.{is_read}
use Rattle.markdown_grammar.specs.Refusals.{ErrorAt}
use Rattle.markdown_steps.specs.Checks.{refused}
use Rattle.markdown_grammar.specs.Document.{Source}
use Rattle.markdown_containers.specs.ContainerStates.{container_state_of, place_of}
use Rattle.markdown_steps.specs.Consequences.{is_text}
use Rattle.markdown_steps.specs.TextNodes.{one_text}
use Rattle.markdown_grammar.specs.declared.error_kind.ErrorKind.{ErrorKind}
use Rattle.markdown_grammar.specs.declared.error_kind.ErrorKind.TheVariants.{InvalidSlice}
use Rattle.markdown_steps.proofs.BreakEnds.{join-lengthened}
use Rattle.markdown_containers.proofs.Keeping.{content_keeps}
use Rattle.markdown_containers.proofs.SpanEnds.{with_child_is}

-- a leaf goes into its container, where no break is before it and it is none
pub leaf_in : (s : Source) (in_table : Bool) (top new : OpenContainer) (what : ItemKind) (a b : Point) (children : ChildFacts) (place : Place)
    → Keeps s (place_of in_table top) what a b nothing_yet top.container new.container → new.line_endings ≡ line_ending_is_text_after what top.line_endings
    → views new.nodes.items ≡ join (views top.nodes.items) (node_of s (place_of in_table top) what a b children nothing_yet) → is_hard_break what ≡ false
    → is_read s (current_model_of top.container) (place_of in_table top) false what a b ≡ true
    → leave s what a b children (fresh leaf place) (container_state_of in_table None top) ≡ Ok (container_state_of in_table None new)
unfolding leave
leaf_in s in_table top new what a b children place keeps ending made no_break read =
    let out : Result ContainerState ErrorAt = Ok (with_child s (container_state_of in_table None top) what a b children nothing_yet) in
    (λ t. cond (read t) out (refused (value_error s what a b) b)) ∙ ap Ok (with_child_is s in_table top new what a b children nothing_yet keeps ending made no_break)

-- a leaf that cannot be read is refused
pub leaf_unread : (s : Source) (in_table : Bool) (pending : Option Position) (top : OpenContainer) (what : ItemKind) (a b : Point) (children : ChildFacts) (place : Place)
    → is_read s (current_model_of top.container) (place_of in_table top) (is_some pending) what a b ≡ false
    → leave s what a b children (fresh leaf place) (container_state_of in_table pending top) ≡ refused (value_error s what a b) b
unfolding leave
leaf_unread s in_table pending top what a b children place unread_here =
    let out : Result ContainerState ErrorAt = Ok (with_child s (container_state_of in_table pending top) what a b children nothing_yet) in
    λ t. cond (unread_here t) out (refused (value_error s what a b) b)

-- ---- Content

differs : true ≡ false → ⊥
differs h = let z : ⊥ = cc in z

-- content that gives its container nothing but nodes
abbrev gives_nodes_alone : Content → Bool
gives_nodes_alone contents.Paragraph = false
gives_nodes_alone contents.ListItem = false
gives_nodes_alone _ = true

keeps : (s : Source) (p : Place) (c : Content) (a b : Point) (i : Summary) (h : Container) → gives_nodes_alone c ≡ true → Keeps s p (content c) a b i h h
keeps s p c a b i h alone =
    content_keeps s p c a b i h (λ is. differs (sym alone ∙ ap gives_nodes_alone is)) (λ is. differs (sym alone ∙ ap gives_nodes_alone is))

-- content goes into its container
pub content_in : (s : Source) (in_table : Bool) (top new : OpenContainer) (c : Content) (a b : Point) (children : ChildFacts) (place : Place)
    → gives_nodes_alone c ≡ true → new.container ≡ top.container → new.line_endings ≡ top.line_endings
    → views new.nodes.items ≡ join (views top.nodes.items) (node_of s (place_of in_table top) (content c) a b children nothing_yet) → is_hard_break (content c) ≡ false
    → is_read s (current_model_of top.container) (place_of in_table top) false (content c) a b ≡ true
    → leave s (content c) a b children (fresh leaf place) (container_state_of in_table None top) ≡ Ok (container_state_of in_table None new)
content_in s in_table top new c a b children place alone same ending made no_break read =
    leaf_in s in_table top new (content c) a b children place
    (subst (λ (h : Container). Keeps s (place_of in_table top) (content c) a b nothing_yet top.container h) (sym same) (keeps s (place_of in_table top) c a b nothing_yet top.container alone)) ending made no_break read

-- a literal address, which is read
pub literal_read : (s : Source) (h : _) (p : Place) (after_break : Bool) (c : Content) (a b : Point) → is_literal c ≡ true
    → is_read s h p after_break (content c) a b ≡ is_read s h p after_break (content contents.Data) a b
literal_read s h p after_break contents.AutolinkLiteralEmail a b such = refl
literal_read s h p after_break contents.AutolinkLiteralWww a b such = refl
literal_read s h p after_break contents.AutolinkLiteralWhole a b such = refl
literal_read s h p after_break c a b such = let z : ⊥ = cc in absurd z

-- the node of one is no text
abbrev first_label : Trees → Label
first_label nothing = thematic_break
first_label (node label children position rest) = label

literal_node : (s : Source) (p : Place) (c : Content) (a b : Point) (children : ChildFacts) (i : Summary) → is_literal c ≡ true → is_text (first_label (node_of s p (content c) a b children i)) ≡ false
literal_node s p contents.AutolinkLiteralEmail a b children i such = refl
literal_node s p contents.AutolinkLiteralWww a b children i such = refl
literal_node s p contents.AutolinkLiteralWhole a b children i such = refl
literal_node s p c a b children i such = let z : ⊥ = cc in absurd z

pub literal_no_text : (s : Source) (p : Place) (c : Content) (a b : Point) (children : ChildFacts) (i : Summary) (t : Tree) → is_literal c ≡ true → only t ≡ node_of s p (content c) a b children i → is_text t.label ≡ false
literal_no_text s p c a b children i t such made = ap (λ (ts : Trees). is_text (first_label ts)) made ∙ literal_node s p c a b children i such

pub literal_alone : (c : Content) → is_literal c ≡ true → (gives_nodes_alone c ≡ true) × (is_hard_break (content c) ≡ false)
literal_alone contents.HardBreak such = let z : ⊥ = cc in absurd z
literal_alone contents.Paragraph such = let z : ⊥ = cc in absurd z
literal_alone contents.ListItem such = let z : ⊥ = cc in absurd z
literal_alone c such = (refl, refl)

-- ---- Breaks

-- no break waits
none_waits : (pending : Option Position) → (not (is_some pending) || false) ≡ true → pending ≡ None
none_waits None h = refl
none_waits (Some here) h = let z : ⊥ = cc in absurd z

-- a break waits for its line ending
break_in : (s : Source) (in_table : Bool) (top : OpenContainer) (a b : Point) (children : ChildFacts) (place : Place)
    → leave s (content contents.HardBreak) a b children (fresh leaf place) (container_state_of in_table None top) ≡ Ok (container_state_of in_table (Some (record { start = to_unist a; end = to_unist b })) top)
unfolding leave
break_in s in_table top a b children place =
    let p : Place = place_of in_table top in
    let k : Keeps s p (content contents.HardBreak) a b nothing_yet top.container top.container = keeps s p contents.HardBreak a b nothing_yet top.container refl in
    λ t. Ok (record {
      initial_model = sym k.initial_model t;
      model = sym k.current_model t;
      place = record { line_endings = top.line_endings; in_table = in_table; marker = sym k.marker t };
      after_break = true;
      inner = record {
        nodes = join (views top.nodes.items) (node «break» nothing (Some (record { start = to_unist a; end = to_unist b })) nothing);
        label = sym k.label t;
        part = λ way. sym (k.kept way) t;
        mark = sym k.mark t;
        value = sym k.value t;
      };
    })

pub break_is_in : (s : Source) (in_table : Bool) (pending : Option Position) (here : Position) (top : OpenContainer) (c : Content) (a b : Point) (children : ChildFacts) (place : Place) → c ≡ contents.HardBreak
    → (not (is_some pending) || is_line_ending (content c)) ≡ true → here ≡ between a b
    → leave s (content c) a b children (fresh leaf place) (container_state_of in_table pending top) ≡ Ok (container_state_of in_table (Some here) top)
break_is_in s in_table pending here top c a b children place is waits at =
    let none : pending ≡ None = none_waits pending (ap (λ (x : Content). not (is_some pending) || is_line_ending (content x)) (sym is) ∙ waits) in
    (λ t. leave s (content (is t)) a b children (fresh leaf place) (container_state_of in_table (none t) top))
    ∙ break_in s in_table top a b children place ∙ ap (λ (x : Position). Ok (container_state_of in_table (Some x) top)) (sym at)

-- a line ending after a break is not read
line_ending_after_break : (l x : Bool) → (not (l && not true) || x) ≡ true
line_ending_after_break true x = refl
line_ending_after_break false x = refl

-- after it the break is a node, which ends where it does
pub break_ends : (s : Source) (in_table : Bool) (here : Position) (top new : OpenContainer) (a b : Point) (children : ChildFacts) (place : Place) → new.container ≡ top.container → new.line_endings ≡ top.line_endings
    → views new.nodes.items ≡ join (views top.nodes.items) (node «break» nothing (Some (record here { end = to_unist b })) nothing)
    → leave s (content contents.LineEnding) a b children (fresh leaf place) (container_state_of in_table (Some here) top) ≡ Ok (container_state_of in_table None new)
unfolding leave
break_ends s in_table here top new a b children place same ending made =
    let p : Place = place_of in_table top in
    let old : Trees = views top.nodes.items in
    let k : Keeps s p (content contents.LineEnding) a b nothing_yet top.container new.container =
    subst (λ (h : Container). Keeps s p (content contents.LineEnding) a b nothing_yet top.container h) (sym same) (keeps s p contents.LineEnding a b nothing_yet top.container refl) in
    let nodes : lengthened (to_unist b) (join old (node «break» nothing (Some here) nothing)) ≡ views new.nodes.items =
    join-lengthened (to_unist b) old (node «break» nothing (Some here) nothing) tt ∙ sym made in
    let out : Result ContainerState ErrorAt = Ok (with_child s (container_state_of in_table (Some here) top) (content contents.LineEnding) a b children nothing_yet) in
    (λ t. cond (line_ending_after_break top.line_endings (is_some (slice s.bytes a b)) t) out (refused (value_error s (content contents.LineEnding) a b) b))
    ∙ (λ t. Ok (record {
      initial_model = sym k.initial_model t;
      model = sym k.current_model t;
      place = record { line_endings = sym ending t; in_table = in_table; marker = sym k.marker t };
      after_break = false;
      inner = record { nodes = nodes t; label = sym k.label t; part = λ way. sym (k.kept way) t; mark = sym k.mark t; value = sym k.value t };
    }))

-- ---- Line endings after no break

-- one is text where line endings are
pub text_in : (s : Source) (in_table : Bool) (top new : OpenContainer) (a b : Point) (children : ChildFacts) (place : Place) → top.line_endings ≡ true → new.container ≡ top.container → new.line_endings ≡ top.line_endings
    → views new.nodes.items ≡ join (views top.nodes.items) (one_text (ending_read s a b) (between a b)) → is_some (slice s.bytes a b) ≡ true
    → leave s (content contents.LineEnding) a b children (fresh leaf place) (container_state_of in_table None top) ≡ Ok (container_state_of in_table None new)
text_in s in_table top new a b children place is_text same ending made read =
    content_in s in_table top new contents.LineEnding a b children place refl same ending
    (made ∙ ap (λ (l : Bool). join (views top.nodes.items) (cond l (one_text (ending_read s a b) (between a b)) nothing)) (sym is_text)) refl
    (ap (λ (l : Bool). not (l && not false) || is_some (slice s.bytes a b)) is_text ∙ read)

pub text_unread : (s : Source) (in_table : Bool) (top : OpenContainer) (a b : Point) (children : ChildFacts) (place : Place) → top.line_endings ≡ true → is_some (slice s.bytes a b) ≡ false
    → leave s (content contents.LineEnding) a b children (fresh leaf place) (container_state_of in_table None top) ≡ refused InvalidSlice b
text_unread s in_table top a b children place is_text unread_here =
    leaf_unread s in_table None top (content contents.LineEnding) a b children place (ap (λ (l : Bool). not (l && not false) || is_some (slice s.bytes a b)) is_text ∙ unread_here)

-- and else nothing
pub nothing_in : (s : Source) (in_table : Bool) (top : OpenContainer) (a b : Point) (children : ChildFacts) (place : Place) → top.line_endings ≡ false
    → leave s (content contents.LineEnding) a b children (fresh leaf place) (container_state_of in_table None top) ≡ Ok (container_state_of in_table None top)
nothing_in s in_table top a b children place is_none =
    content_in s in_table top top contents.LineEnding a b children place refl refl refl
    (sym (ap (λ (l : Bool). join (views top.nodes.items) (cond l (one_text (ending_read s a b) (between a b)) nothing)) is_none ∙ join-nothing (views top.nodes.items))) refl
    (ap (λ (l : Bool). not (l && not false) || is_some (slice s.bytes a b)) is_none)

-- ---- What is known of the break that waits

pub known_in : (s : Source) (in_table : Bool) (known before after : Option Position) (top new : OpenContainer) (a b : Point) (children : ChildFacts) (place : Place) → known ≡ before → after ≡ None
    → leave s (content contents.LineEnding) a b children (fresh leaf place) (container_state_of in_table known top) ≡ Ok (container_state_of in_table None new)
    → leave s (content contents.LineEnding) a b children (fresh leaf place) (container_state_of in_table before top) ≡ Ok (container_state_of in_table after new)
known_in s in_table known before after top new a b children place is none given =
    (λ t. leave s (content contents.LineEnding) a b children (fresh leaf place) (container_state_of in_table (sym is t) top))
    ∙ given ∙ ap (λ (x : Option Position). Ok (container_state_of in_table x new)) (sym none)

pub known_unread : (s : Source) (in_table : Bool) (known before : Option Position) (top : OpenContainer) (a b : Point) (children : ChildFacts) (place : Place) (why : ErrorKind) → known ≡ before
    → leave s (content contents.LineEnding) a b children (fresh leaf place) (container_state_of in_table known top) ≡ refused why b
    → leave s (content contents.LineEnding) a b children (fresh leaf place) (container_state_of in_table before top) ≡ refused why b
known_unread s in_table known before top a b children place why is given =
    (λ t. leave s (content contents.LineEnding) a b children (fresh leaf place) (container_state_of in_table (sym is t) top)) ∙ given
