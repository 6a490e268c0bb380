-- The steps over items alone: they are taken exactly where the grammar takes the items, and what is kept is what the items say.
use Rattle.std.proofs.Common.{◌≡◌, Bool, true, false, not, ◌&&◌, ◌||◌, List, [], ◌∷◌, Option, Some, None, refl, sym, ◌∙◌, ap}
use Rattle.std.specs.Prelude.{is_some}
use Rattle.std.specs.Option.{option_and_then}
use Rattle.markdown_steps.specs.ChildFacts.{child_facts_of}
use Rattle.markdown_events.specs.declared.role.ItemKind.{ItemKind}
use Rattle.markdown_steps.proofs.Allowed.{all_allow, complete-is, takes-none, takes-snoc}
use Rattle.markdown_events.proofs.Booleans.{and-left, and-true}
use Rattle.markdown_steps.proofs.SummaryLaws.{break-snoc, with_child-is, holder-snoc, container_state, inner_at, place-snoc}
use Rattle.markdown_steps.proofs.ItemLists.{then-assoc}
use Rattle.markdown_steps.proofs.Outcomes.{when}
use Rattle.markdown_steps.proofs.RuleLists.{and-assoc}
use Rattle.markdown_grammar.specs.Accepted.{ends_with_break}
use Rattle.markdown_steps.specs.OneTest.{fits}
use Rattle.markdown_steps.specs.Compiler.{ContainerState, allows, with_child, enter_checks, entered, exit_checks, fresh, rule_checks}
use Rattle.markdown_grammar.specs.Attributes.{mark}
use Rattle.markdown_grammar.specs.Grammar.{has_required, rules, conforms}
use Rattle.markdown_grammar.specs.Grammar.{ContentModel, model_after, model_of}
use Rattle.markdown_grammar.specs.Items.{Items, item, kinds, none, ◌then◌}
use Rattle.markdown_grammar.specs.Items.{is_frontmatter, is_hard_break, is_line_ending, is_table}
use Rattle.markdown_steps.specs.Summaries.{Summary, PartPath, into, itself}
use Rattle.markdown_grammar.specs.Attributes.{Place, inherited_after, inherited_in}
use Rattle.markdown_grammar.specs.Document.{byte_at}
use Rattle.markdown_grammar.specs.Values.{is_read}
use Rattle.markdown_steps.specs.Checks.{passes}
use Rattle.markdown_grammar.specs.Grammar.{Rule}
use Rattle.markdown_grammar.specs.Document.{Source}
use Rattle.markdown_grammar.specs.Sites.{model_after_all, inherited_after_all}
use Rattle.markdown_grammar.specs.declared.error_kind.ErrorKind.{ErrorKind}

-- the steps over items, without what is refused by
abbrev pub walk : Source → ContainerState → Items → Option ContainerState
walk s top none = Some top
walk s top (item what a b d i rest) =
    when (passes (enter_checks s top what a))
    (option_and_then (λ (own : ContainerState). when (passes (exit_checks s top what a b own)) (walk s (with_child s top what a b (child_facts_of d) own.inner) rest)) (walk s (entered top what) i))

-- what the steps test of items after others
abbrev pub tested : Source → ContentModel → Place → Items → Items → Bool
tested s h p xs none = true
tested s h p xs (item what a b d i rest) =
    (passes (enter_checks s (container_state s h p xs) what a)
    && (tested s (model_of (model_after_all xs h) what) (inherited_in what p) none i
    && passes (exit_checks s (container_state s h p xs) what a b (container_state s (model_of (model_after_all xs h) what) (inherited_in what p) i))))
    && tested s h p (xs then item what a b d i none) rest

then-none : (xs : Items) → xs then none ≡ xs
then-none none = refl
then-none (item what a b d i rest) = ap (item what a b d i) (then-none rest)

no-part : (s : Source) (p : Place) (way : PartPath) → (inner_at s p none).part way ≡ None
no-part s p itself = refl
no-part s p (into q itself) = refl
no-part s p (into q (into r way)) = refl

-- before its items a container keeps what no items say
pub fresh-is : (s : Source) (h : ContentModel) (p : Place) → fresh h p ≡ container_state s h p none
fresh-is s h p = λ t. record {
  initial_model = h;
  model = h;
  place = p;
  after_break = false;
  inner = record { nodes = (inner_at s p none).nodes; label = (inner_at s p none).label; part = λ way. sym (no-part s p way) t; mark = None; value = None };
}

one-step : (e i x r : Bool) (w : Option ContainerState) (f : ContainerState → Option ContainerState) (own out : ContainerState) → w ≡ when i (Some own) → (e ≡ true → f own ≡ when x (when r (Some out)))
    → when e (option_and_then f w) ≡ when ((e && (i && x)) && r) (Some out)
one-step false i x r w f own out h k = refl
one-step true false x r w f own out h k = ap (option_and_then f) h
one-step true true false r w f own out h k = ap (option_and_then f) h ∙ k refl
one-step true true true r w f own out h k = ap (option_and_then f) h ∙ k refl

pub walk-is : (s : Source) (h : ContentModel) (p : Place) (xs ys : Items) → walk s (container_state s h p xs) ys ≡ when (tested s h p xs ys) (Some (container_state s h p (xs then ys)))
walk-is s h p xs none = ap (λ (x : Items). Some (container_state s h p x)) (sym (then-none xs))
walk-is s h p xs (item what a b d i rest) =
    let h' : ContentModel = model_of (model_after_all xs h) what in
    let top : ContainerState = container_state s h p xs in
    let own : ContainerState = container_state s h' (inherited_in what p) i in
    let more : Items = xs then item what a b d i none in
    one-step (passes (enter_checks s top what a)) (tested s h' (inherited_in what p) none i) (passes (exit_checks s top what a b own)) (tested s h p more rest)
    (walk s (entered top what) i) (λ (o : ContainerState). when (passes (exit_checks s top what a b o)) (walk s (with_child s top what a b (child_facts_of d) o.inner) rest)) own (container_state s h p (xs then item what a b d i rest))
    (ap (λ (t : ContainerState). walk s t i) (fresh-is s h' (inherited_in what p)) ∙ walk-is s h' (inherited_in what p) none i)
    (λ e. ap (λ (t : Option ContainerState). when (passes (exit_checks s top what a b own)) t)
    (ap (λ (t : ContainerState). walk s t rest) (with_child-is s h p xs what a b d i (and-left (not (ends_with_break xs) || is_line_ending what) _ e))
    ∙ walk-is s h p more rest
    ∙ ap (λ (x : Items). when (tested s h p more rest) (Some (container_state s h p x))) (then-assoc xs (item what a b d i none) rest)))

-- ---- The tests are the grammar's

pub passes-rules : (h : ContentModel) (rs : List Rule) (i : Summary) (what : ItemKind) (cs : List (Bool × ErrorKind)) → passes (rule_checks h rs i what cs) ≡ (all_allow rs i what && passes cs)
passes-rules h [] i what cs = refl
passes-rules h (r ∷ rs) i what cs = ap (λ b. allows r i what && b) (passes-rules h rs i what cs) ∙ sym (and-assoc (allows r i what) (all_allow rs i what) (passes cs))

and-false : (b : Bool) → (b && false) ≡ false
and-false true = refl
and-false false = refl

shuffle : (t w a n m y r : Bool) → (t && (((w && (a && (n && (m && true)))) && y) && r)) ≡ (((w && n && m) && y) && ((t && a) && r))
shuffle true false a n m y r = refl
shuffle true true false n m y r = sym (and-false ((n && m) && y))
shuffle true true true n m y r = ap (λ b. ((n && b) && y) && r) (and-true m)
shuffle false w a n m y r = sym (and-false ((w && n && m) && y))

back : (y t f : Bool) → (y && (t && f)) ≡ (t && (y && f))
back true t f = refl
back false t f = sym (and-false t)

ends-bools : (b i u v r : Bool) → (b && (i && (u && (v && (r && true))))) ≡ ((b && i) && ((u && v) && r))
ends-bools false i u v r = refl
ends-bools true false u v r = refl
ends-bools true true u v r = ap (λ c. u && (v && c)) (and-true r) ∙ sym (and-assoc u v r)

pub fits-is : (s : Source) (h : ContentModel) (p : Place) (xs ys : Items)
    → (conforms h (kinds xs) && tested s h p xs ys) ≡ (conforms h (kinds (xs then ys)) && fits s (model_after_all xs h) (inherited_after_all xs p) (ends_with_break xs) ys)
fits-is s h p xs none = ap (λ (x : Items). conforms h (kinds x) && true) (sym (then-none xs))
fits-is s h p xs (item what a b d i rest) =
    let h' : ContentModel = model_of (model_after_all xs h) what in
    let top : ContainerState = container_state s h p xs in
    let own : ContainerState = container_state s h' (inherited_in what p) i in
    let more : Items = xs then item what a b d i none in
    let w : Bool = not (ends_with_break xs) || is_line_ending what in
    let n : Bool = not (p.in_table && is_table what) in
    let m : Bool = not (is_frontmatter what) || is_some (byte_at s.bytes a) in
    let x : Bool = passes (exit_checks s top what a b own) in
    let inner : tested s h' (inherited_in what p) none i ≡ (conforms h' (kinds i) && fits s h' (inherited_in what p) false i) =
    ap (λ c. c && tested s h' (inherited_in what p) none i) (sym (takes-none h')) ∙ fits-is s h' (inherited_in what p) none i in
    let y : Bool = (conforms h' (kinds i) && fits s h' (inherited_in what p) false i) && x in
    let f : Bool = fits s (model_after (model_after_all xs h) what (is_some (mark i))) (inherited_after what (inherited_after_all xs p)) (is_hard_break what) rest in
    ap (λ c. conforms h (kinds xs) && (((w && c) && (tested s h' (inherited_in what p) none i && x)) && tested s h p more rest)) (passes-rules h (rules h) (inner_at s p xs) what ((n, _) ∷ (m, _) ∷ []))
    ∙ ap (λ c. conforms h (kinds xs) && (((w && (all_allow (rules h) (inner_at s p xs) what && (n && (m && true)))) && (c && x)) && tested s h p more rest)) inner
    ∙ shuffle (conforms h (kinds xs)) w (all_allow (rules h) (inner_at s p xs) what) n m y (tested s h p more rest)
    ∙ ap (λ c. ((w && n && m) && y) && (c && tested s h p more rest)) (sym (takes-snoc h s p xs what a b d i))
    ∙ ap (λ c. ((w && n && m) && y) && c)
    (fits-is s h p more rest
    ∙ (λ t. conforms h (kinds (then-assoc xs (item what a b d i none) rest t)) && fits s (holder-snoc h xs what a b d i t) (place-snoc p xs what a b d i t) (break-snoc xs what a b d i t) rest))
    ∙ back ((w && n && m) && y) (conforms h (kinds (xs then item what a b d i rest))) f
    ∙ ap (λ c. conforms h (kinds (xs then item what a b d i rest)) && (c && f))
    (ap (λ e. (w && n && m) && ((conforms h' (kinds i) && fits s h' (inherited_in what p) false i) && (not (ends_with_break i) && (e && (is_read s (model_after_all xs h) (inherited_after_all xs p) (ends_with_break xs) what a b && true))))) (complete-is h' s (inherited_in what p) i)
    ∙ ends-bools (w && n && m) (conforms h' (kinds i) && fits s h' (inherited_in what p) false i) (not (ends_with_break i)) (has_required s h' i) (is_read s (model_after_all xs h) (inherited_after_all xs p) (ends_with_break xs) what a b))
