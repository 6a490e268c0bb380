-- What a container keeps of its items, and that the exit of one more item keeps it so.
use Rattle.std.proofs.Common.{◌≡◌, Bool, true, false, not, ◌||◌, cond, Option, None, Some, refl, sym, ◌∙◌, ap}
use Rattle.std.specs.Prelude.{is_some, option_map}
use Rattle.std.specs.Option.{option_and_then, option_or}
use Rattle.markdown_nodes.proofs.Joining.{join-nothing}
use Rattle.markdown_events.specs.Forest.{Forest}
use Rattle.markdown_events.specs.Slices.{to_unist}
use Rattle.markdown_steps.specs.ChildFacts.{child_facts_of}
use Rattle.markdown_nodes.specs.Tree.{Trees, join, nothing}
use Rattle.markdown_events.specs.declared.event.Point.{Point}
use Rattle.markdown_events.specs.declared.role.ItemKind.{ItemKind}
use Rattle.markdown_events.specs.declared.role.Part.{Part}
use denote.Enum.Bare.{same_true}
use Rattle.markdown_events.specs.contracts.role.Part.{the_type}
use Rattle.markdown_steps.proofs.BreakEnds.{nodes-then-ending}
use Rattle.markdown_steps.proofs.ItemLists.{first_part-then, nodes-then, within-then}
use Rattle.markdown_grammar.specs.Accepted.{ends_with_break}
use Rattle.markdown_steps.specs.Compiler.{ContainerState, with_child, with_child_summary, label_with, lengthened, nodes_with, part_with}
use Rattle.markdown_grammar.specs.Attributes.{mark, mark_given, value, value_given}
use Rattle.markdown_grammar.specs.Grammar.{ContentModel, model_after}
use Rattle.markdown_grammar.specs.Items.{Items, item, none, same_part, ◌then◌}
use Rattle.markdown_grammar.specs.Items.{is_hard_break, is_line_ending, is_part}
use Rattle.markdown_steps.specs.SummaryNodes.{node_of, nodes}
use Rattle.markdown_steps.specs.Summaries.{Summary, PartSummary, PartPath, FoundPart, first_part, summary_of, into, itself, kept_at, path_to, stretch_at}
use Rattle.markdown_grammar.specs.Attributes.{Place, inherited_after, inherited_in}
use Rattle.markdown_grammar.specs.Document.{Source}
use Rattle.markdown_grammar.specs.Sites.{model_after_all, inherited_after_all}
use Rattle.markdown_events.specs.declared.role.ItemKind.TheVariants.{Content as content, Part as part}
use Rattle.markdown_events.specs.declared.role.Content.TheVariants as contents
use Rattle.markdown_events.specs.declared.role.Part.TheVariants as parts

-- what items say of their container, where they begin in that place
abbrev pub inner_at : Source → Place → Items → Summary
inner_at s p xs = summary_of s p xs (λ which. nodes s which p xs)

-- what a container keeps of these items
abbrev pub container_state : Source → ContentModel → Place → Items → ContainerState
container_state s h p xs = record { initial_model = h; model = model_after_all xs h; place = inherited_after_all xs p; after_break = ends_with_break xs; inner = inner_at s p xs }

-- ---- One item more

or-none : {A : Type 0} (o : Option A) → option_or o None ≡ o
or-none None = refl
or-none (Some x) = refl

or-assoc : {A : Type 0} (a b c : Option A) → option_or (option_or a b) c ≡ option_or a (option_or b c)
or-assoc None b c = refl
or-assoc (Some x) b c = refl

nodes-one : (s : Source) (p : Place) (what : ItemKind) (a b : Point) (d : Forest) (i : Items) → nodes s itself p (item what a b d i none) ≡ node_of s p what a b (child_facts_of d) (inner_at s (inherited_in what p) i)
nodes-one s p (content contents.HardBreak) a b d i = refl
nodes-one s p what a b d i = join-nothing (node_of s p what a b (child_facts_of d) (inner_at s (inherited_in what p) i))

-- a line ending ends a break that waits, another item gives its own nodes
nodes-snoc : (s : Source) (p : Place) (xs : Items) (what : ItemKind) (a b : Point) (d : Forest) (i : Items) (w : Bool) → ends_with_break xs ≡ w → (not w || is_line_ending what) ≡ true
    → nodes s itself p (xs then item what a b d i none) ≡ nodes_with w b (node_of s (inherited_after_all xs p) what a b (child_facts_of d) (inner_at s (inherited_in what p) i)) (nodes s itself p xs)
nodes-snoc s p xs what a b d i false e h = nodes-then s p xs (item what a b d i none) e ∙ ap (λ t. join (nodes s itself p xs) t) (nodes-one s (inherited_after_all xs p) what a b d i)
nodes-snoc s p xs (content contents.LineEnding) a b d i true e h = nodes-then-ending s p xs none a b d i e ∙ join-nothing (lengthened (to_unist b) (nodes s itself p xs))
nodes-snoc s p xs what a b d i true e h = let z : ⊥ = cc in absurd z

mark-snoc : (xs : Items) (what : ItemKind) (a b : Point) (d : Forest) (i : Items) → mark (xs then item what a b d i none) ≡ option_or (mark xs) (mark_given what (mark i))
mark-snoc none what a b d i = or-none (mark_given what (mark i))
mark-snoc (item what' a' b' d' i' rest) what a b d i =
    ap (option_or (mark_given what' (mark i'))) (mark-snoc rest what a b d i) ∙ sym (or-assoc (mark_given what' (mark i')) (mark rest) (mark_given what (mark i)))

value-snoc : (s : Source) (xs : Items) (what : ItemKind) (a b : Point) (d : Forest) (i : Items) → value s (xs then item what a b d i none) ≡ option_or (value s xs) (value_given s what a b (value s i))
value-snoc s none what a b d i = or-none (value_given s what a b (value s i))
value-snoc s (item what' a' b' d' i' rest) what a b d i =
    ap (option_or (value_given s what' a' b' (value s i'))) (value-snoc s rest what a b d i)
    ∙ sym (or-assoc (value_given s what' a' b' (value s i')) (value s rest) (value_given s what a b (value s i)))

-- one item as a stretch
abbrev stretch : Place → Point → Point → Items → FoundPart
stretch p a b i = record { start = a; end = b; place = p; inner = i }

first-one : (q : Part) (p : Place) (what : ItemKind) (a b : Point) (d : Forest) (i : Items) → first_part q p (item what a b d i none) ≡ cond (is_part q what) (Some (stretch p a b i)) None
first-one q p (content c) a b d i = refl
first-one q p (part r) a b d i = refl

within-one : (s : Source) (q : Part) (way : PartPath) (p : Place) (what : ItemKind) (a b : Point) (d : Forest) (i : Items) → nodes s (into q way) p (item what a b d i none) ≡ cond (is_part q what) (nodes s way (inherited_in what p) i) nothing
within-one s q way p (content c) a b d i = refl
within-one s q way p (part r) a b d i =
    elim (same_part q r) as (λ t. elim t [ true ↦ nodes s way (inherited_in (part r) p) i | false ↦ nothing ] ≡ cond t (nodes s way (inherited_in (part r) p) i) nothing) [ true ↦ refl | false ↦ refl ]

first-snoc : (q : Part) (p : Place) (xs : Items) (what : ItemKind) (a b : Point) (d : Forest) (i : Items)
    → first_part q p (xs then item what a b d i none) ≡ option_or (first_part q p xs) (cond (is_part q what) (Some (stretch (inherited_after_all xs p) a b i)) None)
first-snoc q p xs what a b d i = first_part-then q p xs (item what a b d i none) ∙ ap (option_or (first_part q p xs)) (first-one q (inherited_after_all xs p) what a b d i)

within-snoc : (s : Source) (q : Part) (way : PartPath) (p : Place) (xs : Items) (what : ItemKind) (a b : Point) (d : Forest) (i : Items)
    → nodes s (into q way) p (xs then item what a b d i none) ≡ cond (is_some (first_part q p xs)) (nodes s (into q way) p xs) (cond (is_part q what) (nodes s way (inherited_in what p) i) nothing)
within-snoc s q way p xs what a b d i = within-then s q way p p xs (item what a b d i none) ∙ ap (cond (is_some (first_part q p xs)) (nodes s (into q way) p xs)) (within-one s q way p what a b d i)

label-bools : (o : Option FoundPart) (k : FoundPart → PartSummary) (what : ItemKind) (old new : Trees)
    → cond (is_some o) old (cond (is_part parts.LabelText what) new nothing) ≡ label_with what new (option_map k o) old
label-bools (Some x) k what old new = refl
label-bools None k what old new = refl

-- what a part in the container itself gave
here-parts : (o : Option FoundPart) (same : Bool) (x : FoundPart) (old new : Trees) (k : FoundPart → Trees → PartSummary)
    → option_map (λ (y : FoundPart). k y (cond (is_some o) old (cond same new nothing))) (option_or o (cond same (Some x) None))
    ≡ elim (option_map (λ (y : FoundPart). k y old) o) [ Some z ↦ option_map (λ (y : FoundPart). k y old) o | None ↦ cond same (Some (k x new)) None ]
here-parts (Some y) same x old new k = refl
here-parts None true x old new k = refl
here-parts None false x old new k = refl

-- what a part of a part gave
below-parts : (o : Option FoundPart) (same : Bool) (x : FoundPart) (old new : Trees) (down : FoundPart → Option FoundPart) (there : Option FoundPart) (k : FoundPart → Trees → PartSummary) (j : FoundPart → PartSummary) → (same ≡ true → down x ≡ there)
    → option_map (λ (y : FoundPart). k y (cond (is_some o) old (cond same new nothing))) (option_and_then down (option_or o (cond same (Some x) None)))
    ≡ elim (option_map j o) [ Some z ↦ option_map (λ (y : FoundPart). k y old) (option_and_then down o) | None ↦ cond same (option_map (λ (y : FoundPart). k y new) there) None ]
below-parts (Some y) same x old new down there k j e = refl
below-parts None true x old new down there k j e = ap (option_map (λ (y : FoundPart). k y new)) (e refl)
below-parts None false x old new down there k j e = refl

pub is-that-part : (q : Part) (what : ItemKind) → is_part q what ≡ true → part q ≡ what
is-that-part q (content c) h = absurd cc
is-that-part q (part r) h = ap (λ (x : Part). part x) (same_true the_type tt q r h)

part-snoc : (s : Source) (p : Place) (xs : Items) (what : ItemKind) (a b : Point) (d : Forest) (i : Items) (way : PartPath)
    → (inner_at s p (xs then item what a b d i none)).part way ≡ part_with s (inherited_after_all xs p) what a b (inner_at s (inherited_in what p) i) (inner_at s p xs).part way
part-snoc s p xs what a b d i itself = refl
part-snoc s p xs what a b d i (into q itself) =
    (λ t. option_map (λ (x : FoundPart). kept_at s (path_to q) x (within-snoc s q itself p xs what a b d i t)) (first-snoc q p xs what a b d i t))
    ∙ here-parts (first_part q p xs) (is_part q what) (stretch (inherited_after_all xs p) a b i) (nodes s (path_to q) p xs) (nodes s itself (inherited_in what p) i) (kept_at s (path_to q))
part-snoc s p xs what a b d i (into q (into r way)) =
    let down : FoundPart → Option FoundPart = λ x. stretch_at (into r way) (inherited_in (part q) x.place) x.inner in
    (λ t. option_map (λ (x : FoundPart). kept_at s (into r way) x (within-snoc s q (into r way) p xs what a b d i t)) (option_and_then down (first-snoc q p xs what a b d i t)))
    ∙ below-parts (first_part q p xs) (is_part q what) (stretch (inherited_after_all xs p) a b i) (nodes s (into q (into r way)) p xs) (nodes s (into r way) (inherited_in what p) i) down
    (stretch_at (into r way) (inherited_in what p) i) (kept_at s (into r way)) (λ x. kept_at s (path_to q) x (nodes s (path_to q) p xs))
    (λ h. ap (λ (w : ItemKind). stretch_at (into r way) (inherited_in w p) i) (is-that-part q what h))

inner-snoc : (s : Source) (h : ContentModel) (p : Place) (xs : Items) (what : ItemKind) (a b : Point) (d : Forest) (i : Items) → (not (ends_with_break xs) || is_line_ending what) ≡ true
    → inner_at s p (xs then item what a b d i none) ≡ with_child_summary s (container_state s h p xs) what a b (child_facts_of d) (inner_at s (inherited_in what p) i)
inner-snoc s h p xs what a b d i ended = λ t. record {
  nodes = nodes-snoc s p xs what a b d i (ends_with_break xs) refl ended t;
  label = (within-snoc s parts.LabelText itself p xs what a b d i
      ∙ label-bools (first_part parts.LabelText p xs) (λ (x : FoundPart). kept_at s (path_to parts.LabelText) x (nodes s (path_to parts.LabelText) p xs)) what (nodes s (path_to parts.LabelText) p xs) (nodes s itself (inherited_in what p) i)) t;
  part = λ way. part-snoc s p xs what a b d i way t;
  mark = mark-snoc xs what a b d i t;
  value = value-snoc s xs what a b d i t;
}

pub holder-snoc : (h : ContentModel) (xs : Items) (what : ItemKind) (a b : Point) (d : Forest) (i : Items) → model_after_all (xs then item what a b d i none) h ≡ model_after (model_after_all xs h) what (is_some (mark i))
holder-snoc h none what a b d i = refl
holder-snoc h (item what' a' b' d' i' rest) what a b d i = holder-snoc (model_after h what' (is_some (mark i'))) rest what a b d i

pub place-snoc : (p : Place) (xs : Items) (what : ItemKind) (a b : Point) (d : Forest) (i : Items) → inherited_after_all (xs then item what a b d i none) p ≡ inherited_after what (inherited_after_all xs p)
place-snoc p none what a b d i = refl
place-snoc p (item what' a' b' d' i' rest) what a b d i = place-snoc (inherited_after what' p) rest what a b d i

break-one : (what : ItemKind) (a b : Point) (d : Forest) (i : Items) → ends_with_break (item what a b d i none) ≡ is_hard_break what
break-one (content contents.HardBreak) a b d i = refl
break-one what a b d i = refl

break-skip : (x : ItemKind) (a' b' : Point) (d' : Forest) (i' : Items) (what : ItemKind) (a b : Point) (d : Forest) (i : Items) (ys : Items)
    → ends_with_break (item x a' b' d' i' (item what a b d i ys)) ≡ ends_with_break (item what a b d i ys)
break-skip (content contents.HardBreak) a' b' d' i' what a b d i ys = refl
break-skip x a' b' d' i' what a b d i ys = refl

pub break-snoc : (xs : Items) (what : ItemKind) (a b : Point) (d : Forest) (i : Items) → ends_with_break (xs then item what a b d i none) ≡ is_hard_break what
break-snoc none what a b d i = break-one what a b d i
break-snoc (item x a' b' d' i' none) what a b d i = break-skip x a' b' d' i' what a b d i none ∙ break-one what a b d i
break-snoc (item x a' b' d' i' (item y a'' b'' d'' i'' rest)) what a b d i = break-skip x a' b' d' i' y a'' b'' d'' i'' (rest then item what a b d i none) ∙ break-snoc (item y a'' b'' d'' i'' rest) what a b d i

-- what comes up at an exit is what the items with this one say
pub with_child-is : (s : Source) (h : ContentModel) (p : Place) (xs : Items) (what : ItemKind) (a b : Point) (d : Forest) (i : Items) → (not (ends_with_break xs) || is_line_ending what) ≡ true
    → with_child s (container_state s h p xs) what a b (child_facts_of d) (inner_at s (inherited_in what p) i) ≡ container_state s h p (xs then item what a b d i none)
with_child-is s h p xs what a b d i ended = sym (λ t. record {
  initial_model = h;
  model = holder-snoc h xs what a b d i t;
  place = place-snoc p xs what a b d i t;
  after_break = break-snoc xs what a b d i t;
  inner = inner-snoc s h p xs what a b d i ended t;
})
