-- The nodes of decorated items are those that the compilation keeps.
use Rattle.std.proofs.Common.{◌≡◌, ℕ, Bool, true, false, cond, List, [], Option, None, Some, refl, ◌∙◌, ap}
use Rattle.std.specs.Prelude.{if◌then◌else◌, is_some, option_map, unwrap_or}
use Rattle.std.specs.Option.{option_and_then, option_or}
use Rattle.markdown_events.specs.Forest.{Forest}
use Rattle.markdown_steps.specs.ChildFacts.{child_facts_of}
use Rattle.markdown_events.specs.Texts.{fold}
use Rattle.markdown_nodes.specs.Tree.{Trees, join, nothing, plain_label, plain_text}
use Rattle.markdown_events.specs.declared.event.Point.{Point}
use Rattle.markdown_events.specs.declared.role.ItemKind.{ItemKind}
use Rattle.markdown_events.specs.declared.role.Part.{Part}
use Rattle.markdown_steps.proofs.SummaryLaws.{is-that-part}
use Rattle.markdown_grammar.specs.Decorated.{Decorated, Found, decorated, first, identifier, nodes_of, or_empty, text, undecorated, within}
use Rattle.markdown_grammar.specs.Attributes.{decoded, mark, value}
use Rattle.markdown_grammar.specs.Document.{given_of, label_read, value_read}
use Rattle.markdown_grammar.specs.Fenced.{fenced}
use Rattle.markdown_grammar.specs.Items.{Items, item, none, same_part}
use Rattle.markdown_grammar.specs.Items.{is_part, marker_of}
use Rattle.markdown_steps.specs.SummaryNodes.{media_of, reference_kind_of}
use Rattle.markdown_grammar.specs.Decorated.{node_at}
use Rattle.markdown_grammar.specs.Nodes.{Span, decorate}
use Rattle.markdown_steps.specs.SummaryNodes.{nodes}
use Rattle.markdown_steps.specs.Summaries.{Summary, PartSummary, PartPath, FoundPart, address, count, count_of, first_part, identifier_of, summary_of, into, itself, kept_from, named, path_through, path_to, stood, stretch_at, text_of, words, words_of}
use Rattle.markdown_grammar.specs.Document.{is_byte}
use Rattle.markdown_grammar.specs.Attributes.{Place, line_ending_is_text_after, inherited_after, inherited_in}
use Rattle.markdown_grammar.specs.Document.{length_between}
use Rattle.markdown_grammar.specs.Document.{Source}
use Rattle.markdown_grammar.specs.Nodes as new
use Rattle.markdown_steps.specs.SummaryNodes as old
use Rattle.markdown_nodes.specs.Tree as tree
use Rattle.markdown_kinds.specs.declared.ReferenceKind.TheVariants as reference_kind
use Rattle.markdown_events.specs.declared.role.Content.TheVariants as contents
use Rattle.markdown_events.specs.declared.role.Part.TheVariants as parts
use Rattle.markdown_events.specs.declared.role.ItemKind.TheVariants.{Content as content, Part as part}

-- ---- Look-ups

-- the nodes at the end of a path
abbrev nodes_at : PartPath → Decorated → Trees
nodes_at itself d = nodes_of d
nodes_at (into q way) undecorated = nothing
nodes_at (into q way) (decorated what _ _ _ _ inner rest) = cond (is_part q what) (nodes_at way inner) (nodes_at (into q way) rest)

-- what is kept of items, by these nodes
abbrev kept : Source → Place → Items → Summary
kept s p xs = summary_of s p xs (λ w. nodes_at w (decorate s p xs))

-- the nodes in a part are the same wherever its container's items begin
at-elsewhere : (s : Source) (q : Part) (way : PartPath) (t ending other : Bool) (m n : Option ℕ) (xs : Items)
    → nodes_at (into q way) (decorate s (record { line_endings = ending; in_table = t; marker = m }) xs) ≡ nodes_at (into q way) (decorate s (record { line_endings = other; in_table = t; marker = n }) xs)
at-elsewhere s q way t ending other m n none = refl
at-elsewhere s q way t ending other m n (item what a b d i rest) =
    ap (λ (y : Trees). cond (is_part q what) (nodes_at way (decorate s (inherited_in what (record { line_endings = ending; in_table = t; marker = m })) i)) y)
    (at-elsewhere s q way t (line_ending_is_text_after what ending) (line_ending_is_text_after what other) (option_or (marker_of what) m) (option_or (marker_of what) n) rest)

-- a part is found where the walk finds it
found-is : {A : Type 0} (k : Point → Point → Place → Trees → A) (s : Source) (q : Part) (p : Place) (xs : Items)
    → option_map (λ (x : FoundPart). k x.start x.end x.place (nodes_at (path_to q) (decorate s p xs))) (first_part q p xs) ≡ option_map (λ (x : Found). k x.start x.end x.place (nodes_of x.inner)) (first q (decorate s p xs))
found-is k s q p none = refl
found-is k s q p (item (content c) a b d i rest) = found-is k s q (inherited_after (content c) p) rest
found-is {A} k s q p (item (part r) a b d i rest) =
    let here : Trees = nodes_of (decorate s (inherited_in (part r) p) i) in
    let later : Decorated = decorate s (inherited_after (part r) p) rest in
    elim (same_part q r) as (λ t. option_map (λ (x : FoundPart). k x.start x.end x.place (cond t here (nodes_at (path_to q) later)))
    (cond t (Some (record { start = a; end = b; place = p; inner = i })) (first_part q (inherited_after (part r) p) rest))
    ≡ option_map (λ (x : Found). k x.start x.end x.place (nodes_of x.inner)) (cond t (Some (record { start = a; end = b; place = p; inner = decorate s (inherited_in (part r) p) i })) (first q later))) [
      | true ↦ refl
      | false ↦ found-is k s q (inherited_after (part r) p) rest
    ]

-- and a part of a part
through-is : {A : Type 0} (k : Point → Point → Place → Trees → A) (s : Source) (q r : Part) (p : Place) (xs : Items)
    → option_map (λ (x : FoundPart). k x.start x.end x.place (nodes_at (path_through q r) (decorate s p xs))) (stretch_at (path_through q r) p xs)
    ≡ option_map (λ (x : Found). k x.start x.end x.place (nodes_of x.inner)) (first r (within q (decorate s p xs)))
through-is k s q r p none = refl
through-is k s q r p (item (content c) a b d i rest) = through-is k s q r (inherited_after (content c) p) rest
through-is {A} k s q r p (item (part o) a b d i rest) =
    by-same (same_part q o) (λ h. is-that-part q (part o) h) (through-is k s q r (inherited_after (part o) p) rest)
  where
    by-same : (t : Bool) → (t ≡ true → part q ≡ part o)
        → option_map (λ (x : FoundPart). k x.start x.end x.place (nodes_at (path_through q r) (decorate s (inherited_after (part o) p) rest))) (stretch_at (path_through q r) (inherited_after (part o) p) rest)
        ≡ option_map (λ (x : Found). k x.start x.end x.place (nodes_of x.inner)) (first r (within q (decorate s (inherited_after (part o) p) rest)))
        → option_map (λ (x : FoundPart). k x.start x.end x.place (cond t (nodes_at (path_to r) (decorate s (inherited_in (part o) p) i)) (nodes_at (path_through q r) (decorate s (inherited_after (part o) p) rest))))
        (option_and_then (λ (x : FoundPart). first_part r (inherited_in (part q) x.place) x.inner) (cond t (Some (record { start = a; end = b; place = p; inner = i })) (first_part q (inherited_after (part o) p) rest)))
        ≡ option_map (λ (x : Found). k x.start x.end x.place (nodes_of x.inner)) (first r (cond t (decorate s (inherited_in (part o) p) i) (within q (decorate s (inherited_after (part o) p) rest))))
    by-same true e later =
        ap (λ (w : ItemKind). option_map (λ (x : FoundPart). k x.start x.end x.place (nodes_at (path_to r) (decorate s (inherited_in (part o) p) i))) (first_part r (inherited_in w p) i)) (e refl)
        ∙ found-is k s r (inherited_in (part o) p) i
    by-same false e later = later

within-is : (q : Part) (d : Decorated) → nodes_at (path_to q) d ≡ nodes_of (within q d)
within-is q undecorated = refl
within-is q (decorated what a b p own inner rest) =
    elim (is_part q what) as (λ t. cond t (nodes_of inner) (nodes_at (path_to q) rest) ≡ nodes_of (cond t inner (within q rest))) [ true ↦ refl | false ↦ within-is q rest ]

-- ---- What is read of a part

words-are : (g : Found → List ℕ) (o : Option Found) → words_of (option_map (λ (x : Found). words (g x)) o) ≡ option_map g o
words-are g None = refl
words-are g (Some x) = refl

named-words : (h g : Found → List ℕ) (o : Option Found) → words_of (option_map (λ (x : Found). named (h x) (g x)) o) ≡ option_map g o
named-words h g None = refl
named-words h g (Some x) = refl

named-identifier : (h g : Found → List ℕ) (o : Option Found) → identifier_of (option_map (λ (x : Found). named (h x) (g x)) o) ≡ or_empty (option_map h o)
named-identifier h g None = refl
named-identifier h g (Some x) = refl

-- a part that gives a text, by its path
text-is : (s : Source) (q : Part) (p : Place) (xs : Items) → ((p : Place) (a b : Point) (ts : Trees) → kept_from s p q a b ts ≡ words (plain_text ts)) → words_of ((kept s p xs).part (path_to q)) ≡ text q (decorate s p xs)
text-is s q p xs e =
    ap words_of (found-is (λ a b p ts. kept_from s p q a b ts) s q p xs ∙ (λ t. option_map (λ (x : Found). e x.place x.start x.end (nodes_of x.inner) t) (first q (decorate s p xs))))
    ∙ words-are (λ (x : Found). plain_text (nodes_of x.inner)) (first q (decorate s p xs))

text-through : (s : Source) (q r : Part) (p : Place) (xs : Items) → ((p : Place) (a b : Point) (ts : Trees) → kept_from s p r a b ts ≡ words (plain_text ts)) → words_of ((kept s p xs).part (path_through q r)) ≡ text r (within q (decorate s p xs))
text-through s q r p xs e =
    ap words_of (through-is (λ a b p ts. kept_from s p r a b ts) s q r p xs ∙ (λ t. option_map (λ (x : Found). e x.place x.start x.end (nodes_of x.inner) t) (first r (within q (decorate s p xs)))))
    ∙ words-are (λ (x : Found). plain_text (nodes_of x.inner)) (first r (within q (decorate s p xs)))

-- a part that gives an identifier and a text
part-named : (s : Source) (q : Part) (g : Trees → List ℕ) (p : Place) (xs : Items) → ((p : Place) (a b : Point) (ts : Trees) → kept_from s p q a b ts ≡ named (fold (label_read s a b)) (g ts))
    → (kept s p xs).part (path_to q) ≡ option_map (λ (x : Found). named (fold (label_read s x.start x.end)) (g (nodes_of x.inner))) (first q (decorate s p xs))
part-named s q g p xs e = found-is (λ a b p ts. kept_from s p q a b ts) s q p xs ∙ (λ t. option_map (λ (x : Found). e x.place x.start x.end (nodes_of x.inner) t) (first q (decorate s p xs)))

identifier-is : (s : Source) (q : Part) (g : Trees → List ℕ) (p : Place) (xs : Items) → ((p : Place) (a b : Point) (ts : Trees) → kept_from s p q a b ts ≡ named (fold (label_read s a b)) (g ts))
    → identifier_of ((kept s p xs).part (path_to q)) ≡ or_empty (identifier s q (decorate s p xs))
identifier-is s q g p xs e =
    ap identifier_of (part-named s q g p xs e) ∙ named-identifier (λ (x : Found). fold (label_read s x.start x.end)) (λ (x : Found). g (nodes_of x.inner)) (first q (decorate s p xs))

named-is : (s : Source) (q : Part) (g : Trees → List ℕ) (p : Place) (xs : Items) → ((p : Place) (a b : Point) (ts : Trees) → kept_from s p q a b ts ≡ named (fold (label_read s a b)) (g ts))
    → words_of ((kept s p xs).part (path_to q)) ≡ option_map (λ (x : Found). g (nodes_of x.inner)) (first q (decorate s p xs))
named-is s q g p xs e = ap words_of (part-named s q g p xs e) ∙ named-words (λ (x : Found). fold (label_read s x.start x.end)) (λ (x : Found). g (nodes_of x.inner)) (first q (decorate s p xs))

-- ---- Links and images

kind-is : (h g : Found → List ℕ) (o string : Option Found)
    → reference_kind_of (option_map (λ (x : Found). stood) o) (option_map (λ (x : Found). named (h x) (g x)) string) ≡ (if is_some o then (if is_some string then reference_kind.Full else reference_kind.Collapsed) else reference_kind.Shortcut)
kind-is h g None string = refl
kind-is h g (Some x) None = refl
kind-is h g (Some x) (Some y) = refl

either-identifier : (h g g' : Found → List ℕ) (o o' : Option Found)
    → identifier_of (option_or (option_map (λ (x : Found). named (h x) (g x)) o) (option_map (λ (x : Found). named (h x) (g' x)) o')) ≡ or_empty (option_or (option_map h o) (option_map h o'))
either-identifier h g g' (Some x) o' = refl
either-identifier h g g' None (Some x) = refl
either-identifier h g g' None None = refl

either-text : (h g g' : Found → List ℕ) (o o' : Option Found)
    → text_of (option_or (option_map (λ (x : Found). named (h x) (g x)) o) (option_map (λ (x : Found). named (h x) (g' x)) o')) ≡ or_empty (option_or (option_map g o) (option_map g' o'))
either-text h g g' (Some x) o' = refl
either-text h g g' None (Some x) = refl
either-text h g g' None None = refl

stood-map : {A : Type 0} (y : A) (o : Option Found) → option_map (λ (k : PartSummary). y) (option_map (λ (x : Found). stood) o) ≡ option_map (λ (x : Found). y) o
stood-map y None = refl
stood-map y (Some x) = refl

target-is : (s : Source) (p : Place) (xs : Items) → media_of (kept s p xs) ≡ new.target s (decorate s p xs)
target-is s p xs =
    let d : Decorated = decorate s p xs in
    let folded : Found → List ℕ = λ x. fold (label_read s x.start x.end) in
    let plain : Found → List ℕ = λ x. plain_text (nodes_of x.inner) in
    let as_label : Found → List ℕ = λ x. plain_label (nodes_of x.inner) in
    let string_at : Option Found = first parts.ReferenceString (within parts.Reference d) in
    let label_at : Option Found = first parts.LabelText d in
    let string : (kept s p xs).part (path_through parts.Reference parts.ReferenceString) ≡ option_map (λ (x : Found). named (folded x) (plain x)) string_at =
    through-is (λ a b p ts. kept_from s p parts.ReferenceString a b ts) s parts.Reference parts.ReferenceString p xs in
    let label : (kept s p xs).part (path_to parts.LabelText) ≡ option_map (λ (x : Found). named (folded x) (as_label x)) label_at = part-named s parts.LabelText plain_label p xs (λ p a b ts. refl) in
    let resource : (kept s p xs).part (path_to parts.Resource) ≡ option_map (λ (x : Found). stood) (first parts.Resource d) = found-is (λ a b p ts. stood) s parts.Resource p xs in
    let reference : (kept s p xs).part (path_to parts.Reference) ≡ option_map (λ (x : Found). stood) (first parts.Reference d) = found-is (λ a b p ts. stood) s parts.Reference p xs in
    let url = text-through s parts.Resource parts.ResourceDestinationString p xs (λ p a b ts. refl) in
    let title = text-through s parts.Resource parts.ResourceTitleString p xs (λ p a b ts. refl) in
    λ t. record {
      resource = ((λ u. option_map (λ (r : PartSummary). (or_empty (url u), title u)) (resource u))
          ∙ stood-map (or_empty (text parts.ResourceDestinationString (within parts.Resource d)), text parts.ResourceTitleString (within parts.Resource d)) (first parts.Resource d)) t;
      kind = ((λ u. reference_kind_of (reference u) (string u)) ∙ kind-is folded plain (first parts.Reference d) string_at) t;
      identifier = ((λ u. identifier_of (option_or (string u) (label u))) ∙ either-identifier folded plain as_label string_at label_at) t;
      label = ((λ u. text_of (option_or (string u) (label u))) ∙ either-text folded plain as_label string_at label_at) t;
    }

-- ---- The node of a span

-- a span as it stands
abbrev pub span_at : Source → Place → ItemKind → Point → Point → Forest → Items → Span
span_at s p what a b d inner = record { start = a; end = b; place = p; children = d; items = decorate s (inherited_in what p) inner; mark = mark inner; number = value s inner }

autolink-is : (s : Source) (x : Span) (o o' : Option Found)
    → old.autolink (option_map (λ (y : Found). address y.start y.end (value_read s y.start y.end)) o) (option_map (λ (y : Found). address y.start y.end (value_read s y.start y.end)) o') x.start x.end ≡ new.autolink s x o o'
autolink-is s x (Some y) o' = refl
autolink-is s x None (Some y) = refl
autolink-is s x None None = refl

character-is : (s : Source) (o : Option Found) → text_of (option_map (λ (x : Found). words (unwrap_or (decoded s x.place x.start x.end) [])) o) ≡ or_empty (option_and_then (λ (x : Found). decoded s x.place x.start x.end) o)
character-is s None = refl
character-is s (Some x) = refl

atx-is : (s : Source) (o : Option Found) → count_of (option_map (λ (x : Found). count (unwrap_or (length_between s.bytes x.start x.end) 0)) o) ≡ unwrap_or (option_and_then (λ (x : Found). length_between s.bytes x.start x.end) o) 0
atx-is s None = refl
atx-is s (Some x) = refl

setext-is : (s : Source) (o : Option Found) → count_of (option_map (λ (x : Found). count (if is_byte s 45 x.start then 2 else 1)) o) ≡ unwrap_or (option_map (λ (x : Found). if is_byte s 45 x.start then 2 else 1) o) 0
setext-is s None = refl
setext-is s (Some x) = refl

-- what is kept of its items gives the same node as these items
node-is : (s : Source) (p : Place) (what : ItemKind) (a b : Point) (d : Forest) (inner : Items)
    → old.node_of s p what a b (child_facts_of d) (kept s (inherited_in what p) inner) ≡ new.node_of s what (span_at s p what a b d inner)
node-is s p (content contents.CharacterReference) a b d inner =
    let h : Place = inherited_in (content contents.CharacterReference) p in
    ap (λ (v : List ℕ). node_at (tree.text v) nothing a b)
    (ap text_of (found-is (λ a b p ts. kept_from s p parts.CharacterReferenceValue a b ts) s parts.CharacterReferenceValue h inner) ∙ character-is s (first parts.CharacterReferenceValue (decorate s h inner)))
node-is s p (content contents.Autolink) a b d inner =
    let h : Place = inherited_in (content contents.Autolink) p in
    (λ t. old.autolink (found-is (λ a b p ts. kept_from s p parts.AutolinkEmail a b ts) s parts.AutolinkEmail h inner t) (found-is (λ a b p ts. kept_from s p parts.AutolinkProtocol a b ts) s parts.AutolinkProtocol h inner t) a b)
    ∙ autolink-is s (span_at s p (content contents.Autolink) a b d inner) (first parts.AutolinkEmail (decorate s h inner)) (first parts.AutolinkProtocol (decorate s h inner))
node-is s p (content contents.HeadingAtx) a b d inner =
    let h : Place = inherited_in (content contents.HeadingAtx) p in
    ap (λ (n : ℕ). node_at (tree.heading n) (nodes_of (decorate s h inner)) a b)
    (ap count_of (found-is (λ a b p ts. kept_from s p parts.HeadingAtxSequence a b ts) s parts.HeadingAtxSequence h inner) ∙ atx-is s (first parts.HeadingAtxSequence (decorate s h inner)))
node-is s p (content contents.HeadingSetext) a b d inner =
    let h : Place = inherited_in (content contents.HeadingSetext) p in
    ap (λ (n : ℕ). node_at (tree.heading n) (nodes_of (decorate s h inner)) a b)
    (ap count_of (found-is (λ a b p ts. kept_from s p parts.HeadingSetextUnderlineSequence a b ts) s parts.HeadingSetextUnderlineSequence h inner) ∙ setext-is s (first parts.HeadingSetextUnderlineSequence (decorate s h inner)))
node-is s p (content contents.CodeFenced) a b d inner =
    let h : Place = inherited_in (content contents.CodeFenced) p in
    λ t. node_at (tree.code (fenced (given_of s) b.index (nodes_of (decorate s h inner))) (text-through s parts.CodeFencedFence parts.CodeFencedFenceInfo h inner (λ p a b ts. refl) t)
    (text-through s parts.CodeFencedFence parts.CodeFencedFenceMeta h inner (λ p a b ts. refl) t)) nothing a b
node-is s p (content contents.MathFlow) a b d inner =
    let h : Place = inherited_in (content contents.MathFlow) p in
    λ t. node_at (tree.math (fenced (given_of s) b.index (nodes_of (decorate s h inner))) (text-through s parts.MathFlowFence parts.MathFlowFenceMeta h inner (λ p a b ts. refl) t)) nothing a b
node-is s p (content contents.Definition) a b d inner =
    let h : Place = inherited_in (content contents.Definition) p in
    λ t. node_at (tree.definition (or_empty (text-is s parts.DefinitionDestinationString h inner (λ p a b ts. refl) t)) (text-is s parts.DefinitionTitleString h inner (λ p a b ts. refl) t)
    (identifier-is s parts.DefinitionLabelString plain_text h inner (λ p a b ts. refl) t) (named-is s parts.DefinitionLabelString plain_text h inner (λ p a b ts. refl) t)) nothing a b
node-is s p (content contents.FootnoteDefinition) a b d inner =
    let h : Place = inherited_in (content contents.FootnoteDefinition) p in
    λ t. node_at (tree.footnote_definition (identifier-is s parts.FootnoteDefinitionLabelString plain_text h inner (λ p a b ts. refl) t) (named-is s parts.FootnoteDefinitionLabelString plain_text h inner (λ p a b ts. refl) t))
    (nodes_of (decorate s h inner)) a b
node-is s p (content contents.FootnoteCall) a b d inner =
    let h : Place = inherited_in (content contents.FootnoteCall) p in
    λ t. node_at (tree.footnote_reference (identifier-is s parts.LabelText plain_label h inner (λ p a b ts. refl) t) (Some (or_empty (named-is s parts.LabelText plain_label h inner (λ p a b ts. refl) t)))) nothing a b
node-is s p (content contents.Link) a b d inner =
    let h : Place = inherited_in (content contents.Link) p in
    λ t. node_at (new.link_label (target-is s h inner t)) (within-is parts.LabelText (decorate s h inner) t) a b
node-is s p (content contents.Image) a b d inner =
    let h : Place = inherited_in (content contents.Image) p in
    λ t. node_at (new.image_label (or_empty (named-is s parts.LabelText plain_label h inner (λ p a b ts. refl) t)) (target-is s h inner t)) nothing a b
node-is s p (content c) a b d inner = refl
node-is s p (part parts.HeadingSetextText) a b d inner = refl
node-is s p (part q) a b d inner = refl

-- ---- The nodes of items

-- what the compilation keeps of items is what these items, decorated, give: the nodes of all of them, and those in the part at the end of a path
decorated-at : (s : Source) (w : PartPath) (p : Place) (xs : Items) → nodes s w p xs ≡ nodes_at w (decorate s p xs)
decorated-at s itself p none = refl
decorated-at s (into q way) p none = refl
decorated-at s itself p (item (content contents.HardBreak) a b d i (item (content contents.LineEnding) a' b' d' i' rest)) = ap (λ (t : Trees). join (node_at tree.«break» nothing a b') t) (decorated-at s itself p rest)
decorated-at s itself p (item what a b d i rest) =
    λ t. join ((ap (λ (under : PartPath → Trees). old.node_of s p what a b (child_facts_of d) (summary_of s (inherited_in what p) i under)) (λ u way. decorated-at s way (inherited_in what p) i u) ∙ node-is s p what a b d i) t)
    (decorated-at s itself (inherited_after what p) rest t)
decorated-at s (into q way) p (item (part r) a b d i rest) =
    elim (same_part q r) as (λ t. elim t [ true ↦ nodes s way (inherited_in (part r) p) i | false ↦ nodes s (into q way) p rest ] ≡ cond t (nodes_at way (decorate s (inherited_in (part r) p) i)) (nodes_at (into q way) (decorate s (inherited_after (part r) p) rest))) [
      | true ↦ decorated-at s way (inherited_in (part r) p) i
      | false ↦
          decorated-at s (into q way) p rest
          ∙ at-elsewhere s q way p.in_table p.line_endings (line_ending_is_text_after (part r) p.line_endings) p.marker (option_or (marker_of (part r)) p.marker) rest
    ]
decorated-at s (into q way) p (item (content c) a b d i rest) =
    decorated-at s (into q way) p rest ∙ at-elsewhere s q way p.in_table p.line_endings (line_ending_is_text_after (content c) p.line_endings) p.marker (option_or (marker_of (content c)) p.marker) rest

-- the nodes of items are those that are kept of them
pub nodes-are : (s : Source) (p : Place) (xs : Items) → nodes s itself p xs ≡ nodes_of (decorate s p xs)
nodes-are s p xs = decorated-at s itself p xs
