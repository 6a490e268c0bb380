-- The compilation on values gives the meaning of an accepted forest, and nothing else.
use Rattle.std.proofs.Common.{◌≡◌, Bool, true, false, not, ◌&&◌, cond, List, [], ◌∷◌, Option, Some, Result, Ok, Err, refl, sym, ap, ◌∙◌}
use Rattle.std.proofs.lemmas.List.{append-nil}
use Rattle.markdown_events.specs.Forest.{Forest, is_well_formed, events_of}
use Rattle.markdown_nodes.specs.Tree.{Tree, Trees, root}
use Rattle.markdown_events.specs.declared.event.Event.{Event}
use Rattle.markdown_events.specs.declared.event.Point.{Point}
use Rattle.markdown_events.specs.declared.unist.Position.{Position}
use Rattle.markdown_events.proofs.Booleans.{and-both, and-left, and-right}
use Rattle.markdown_steps.proofs.ColumnKinds.{columns_past}
use Rattle.markdown_steps.proofs.Decorating.{nodes-are}
use Rattle.markdown_steps.proofs.EventRuns.{at, over, run-of}
use Rattle.markdown_steps.proofs.Extents.{extent-is}
use Rattle.markdown_steps.proofs.ForestSteps.{Reached, eval, eval-walk, giving, reached}
use Rattle.markdown_steps.proofs.SummaryLaws.{container_state}
use Rattle.markdown_steps.proofs.ItemSteps.{fits-is, fresh-is, walk, walk-is}
use Rattle.markdown_steps.proofs.Outcomes.{bind_ok, checked_ok, checked_passes, done, ok, ok-inv, ok_is, when, when-inv, when-then, when-when}
use Rattle.markdown_steps.proofs.RuleLists.{and-assoc}
use Rattle.markdown_steps.proofs.WellFormed.{shaped-is}
use Rattle.markdown_steps.proofs.SiblingMarks.{marks}
use Rattle.markdown_grammar.specs.Accepted.{ends_with_break}
use Rattle.markdown_steps.specs.OneTest.{accepted, fits}
use Rattle.markdown_events.specs.Around.{in_the_open}
use Rattle.markdown_steps.specs.Columns.{no_columns}
use Rattle.markdown_steps.specs.Compiler.{ContainerState, OpenSpan, State, compiled, fresh, no_open_span, last_checks, opening, point_of, run, tree_of}
use Rattle.markdown_steps.specs.Extents.{last_event}
use Rattle.markdown_grammar.specs.Grammar.{conforms}
use Rattle.markdown_grammar.specs.Grammar.{any_content}
use Rattle.markdown_grammar.specs.Items.{items, kinds, none}
use Rattle.markdown_grammar.specs.Meaning.{extent, meaning}
use Rattle.markdown_grammar.specs.Attributes.{inherited_at_root}
use Rattle.markdown_grammar.specs.Refusals.{ErrorAt}
use Rattle.markdown_steps.specs.Checks.{checked, passes, ◌>>=◌}
use Rattle.markdown_steps.specs.Siblings.{no_marks}
use Rattle.markdown_grammar.specs.Document.{Source}
use Rattle.markdown_grammar.specs.declared.error_kind.ErrorKind.TheVariants.{UnfinishedBreak}

-- ---- The recursion and the grammar, in one equation

-- what the grammar asks of a forest, but that no break is its last item
abbrev pub all_but_last : Source → Forest → Bool
all_but_last s f = is_well_formed f && (conforms any_content (kinds (items f)) && fits s any_content inherited_at_root false (items f))

-- before a forest, and after it
abbrev pub start : Reached
start = reached (fresh any_content inherited_at_root) no_columns

abbrev pub finish : Source → Forest → Reached
finish s f = reached (container_state s any_content inherited_at_root (items f)) (columns_past false no_columns f)

pub eval-is : (s : Source) (f : Forest) → ok (eval s in_the_open f start) ≡ when (all_but_last s f) (Some (finish s f))
eval-is s f =
    let fit : Bool = conforms any_content (kinds (items f)) && fits s any_content inherited_at_root false (items f) in
    let made : ContainerState = container_state s any_content inherited_at_root (items f) in
    eval-walk s in_the_open f start
    ∙ (λ t. when (shaped-is f t) (giving (columns_past false no_columns f) (walk s (fresh-is s any_content inherited_at_root t) (items f))))
    ∙ ap (λ (o : Option ContainerState). when (is_well_formed f) (giving (columns_past false no_columns f) o)) (walk-is s any_content inherited_at_root none (items f) ∙ ap (λ b. when b (Some made)) (fits-is s any_content inherited_at_root none (items f)))
    ∙ ap (when (is_well_formed f)) (when-then fit (Some made) (λ (t : ContainerState). Some (reached t (columns_past false no_columns f))))
    ∙ when-when (is_well_formed f) fit (Some (finish s f))

-- the run over the events of a forest, and nothing else
pub over-all : (s : Source) (f : Forest) → run s (events_of f) opening ≡ (eval s in_the_open f start >>= λ y. done (at [] in_the_open (marks f) y))
unfolding run
over-all s f = ap (λ (es : List Event). run s es opening) (sym (append-nil (events_of f))) ∙ over s f [] [] in_the_open no_marks start

accepted-is : (s : Source) (f : Forest) → accepted s f ≡ (all_but_last s f && not (ends_with_break (items f)))
accepted-is s f = ap (λ b. b && not (ends_with_break (items f))) (and-assoc (is_well_formed f) (conforms any_content (kinds (items f))) (fits s any_content inherited_at_root false (items f)))

-- ---- An accepted forest gives its meaning

pub accepted-runs : (s : Source) (f : Forest) → accepted s f ≡ true → run s (events_of f) opening ≡ Ok (at [] in_the_open (marks f) (finish s f))
accepted-runs s f h =
    let fit : all_but_last s f ≡ true = and-left (all_but_last s f) (not (ends_with_break (items f))) (sym (accepted-is s f) ∙ h) in
    over-all s f
    ∙ ap (λ (r : Result Reached ErrorAt). r >>= λ y. done (at [] in_the_open (marks f) y))
    (ok-inv (eval s in_the_open f start) (finish s f) (eval-is s f ∙ ap (λ b. when b (Some (finish s f))) fit))

pub complete : (s : Source) (f : Forest) → accepted s f ≡ true → compiled s (events_of f) ≡ Ok (meaning s f)
complete s f h =
    let st : State = at [] in_the_open (marks f) (finish s f) in
    let last : Point = point_of (last_event (events_of f)) in
    let unbroken : not (ends_with_break (items f)) ≡ true = and-right (all_but_last s f) (not (ends_with_break (items f))) (sym (accepted-is s f) ∙ h) in
    ap (λ (r : Result State ErrorAt). r >>= λ x. checked (last_checks x) last (Ok (tree_of (events_of f) x))) (accepted-runs s f h)
    ∙ ap (λ b. cond b (done (tree_of (events_of f) st)) (Err (record { error_kind = UnfinishedBreak; point = last }))) unbroken
    ∙ ap (λ (p : Position). done (record { label = root; children = (finish s f).top.inner.nodes; position = Some p })) (extent-is f)
    ∙ ap (λ (ts : Trees). done (record { label = root; children = ts; position = Some (extent f) })) (nodes-are s inherited_at_root (items f))

-- ---- What ends well was the spelling of an accepted forest, and the tree is its meaning

pub record Means (s : Source) (es : List Event) (tree : Tree) : Type 0 where
  pub forest : Forest
  pub has_events : events_of forest ≡ es
  pub is_accepted : accepted s forest ≡ true
  pub is_meaning : tree ≡ meaning s forest

pop-is : (fs : List OpenSpan) → no_open_span fs ≡ true → fs ≡ []
pop-is [] h = refl
pop-is (f ∷ fs) h = absurd cc

-- a run that ends with no span open
pub record Ran (s : Source) (es : List Event) (st : State) : Type 0 where
  pub forest : Forest
  pub has_events : events_of forest ≡ es
  pub fits_but_last : all_but_last s forest ≡ true
  pub state : at [] in_the_open (marks forest) (finish s forest) ≡ st

pub ran : (s : Source) (es : List Event) (st : State) → run s es opening ≡ Ok st → st.frames ≡ [] → Ran s es st
ran s es st h none_open =
    let p = run-of s es in_the_open no_marks start st h none_open in
    let f : Forest = p.0 in
    let whole : (eval s in_the_open f start >>= λ y. done (at [] in_the_open (marks f) y)) ≡ Ok st = sym (over-all s f) ∙ ap (λ (x : List Event). run s x opening) (sym p.1) ∙ h in
    let e = bind_ok (eval s in_the_open f start) (λ y. done (at [] in_the_open (marks f) y)) st whole in
    let w = when-inv (all_but_last s f) (finish s f) e.0 (sym (eval-is s f) ∙ ap ok e.1) in
    record {
      forest = f;
      has_events = sym p.1;
      fits_but_last = w.0;
      state = ap (at [] in_the_open (marks f)) w.1 ∙ ok_is (at [] in_the_open (marks f) e.0) st e.2;
    }

pub sound : (s : Source) (es : List Event) (tree : Tree) → compiled s es ≡ Ok tree → Means s es tree
sound s es tree h =
    let last : Point = point_of (last_event es) in
    let b = bind_ok (run s es opening) (λ st. checked (last_checks st) last (Ok (tree_of es st))) tree h in
    let st : State = b.0 in
    let fine : passes (last_checks st) ≡ true = checked_passes (last_checks st) last (Ok (tree_of es st)) tree b.2 in
    let r = ran s es st b.1 (pop-is st.frames (and-left (no_open_span st.frames) (not st.top.after_break && true) fine)) in
    let unbroken : not st.top.after_break ≡ true = and-left (not st.top.after_break) true (and-right (no_open_span st.frames) (not st.top.after_break && true) fine) in
    let tree_is : tree_of es st ≡ tree = ok_is (tree_of es st) tree (checked_ok (last_checks st) last (Ok (tree_of es st)) tree b.2) in
    record {
      forest = r.forest;
      has_events = r.has_events;
      is_accepted = accepted-is s r.forest ∙ and-both (all_but_last s r.forest) (not (ends_with_break (items r.forest))) r.fits_but_last (ap (λ (x : State). not x.top.after_break) r.state ∙ unbroken);
      is_meaning = sym tree_is ∙ (λ t. tree_of (sym r.has_events t) (sym r.state t))
          ∙ ap (λ (p : Position). record { label = root; children = (finish s r.forest).top.inner.nodes; position = Some p }) (extent-is r.forest)
          ∙ ap (λ (ts : Trees). record { label = root; children = ts; position = Some (extent r.forest) }) (nodes-are s inherited_at_root (items r.forest));
    }
