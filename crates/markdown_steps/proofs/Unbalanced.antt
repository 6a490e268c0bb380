-- The events of a forest are never refused as unbalanced.
use Rattle.std.proofs.Common.{◌≡◌, ◌≢◌, Bool, true, false, not, ◌&&◌, cond, List, [], ◌∷◌, Result, Ok, Err, refl, sym, ap, ◌∙◌}
use Rattle.std.specs.Prelude.{is_some}
use Rattle.markdown_events.specs.Forest.{Forest, empty, span, events_of}
use Rattle.markdown_events.specs.Names.{role_of}
use Rattle.markdown_events.specs.Slices.{slice}
use Rattle.markdown_steps.specs.ChildFacts.{ChildFacts}
use Rattle.markdown_nodes.specs.Tree.{Tree}
use Rattle.markdown_events.specs.declared.event.Event.{Event}
use Rattle.markdown_events.specs.declared.event.Point.{Point}
use Rattle.markdown_events.specs.declared.role.ItemKind.{ItemKind}
use Rattle.markdown_events.specs.declared.role.Role.{Role}
use Rattle.markdown_steps.proofs.Compiled.{over-all, start}
use Rattle.markdown_steps.proofs.EventRuns.{at}
use Rattle.markdown_steps.proofs.ForestSteps.{Reached, begun, ended, eval, eval_as}
use Rattle.markdown_steps.proofs.Outcomes.{done, err_is}
use Rattle.markdown_steps.proofs.SiblingMarks.{marks}
use Rattle.markdown_events.specs.Around.{in_the_open, may_begin, under}
use Rattle.markdown_steps.specs.Columns.{child_facts}
use Rattle.markdown_steps.specs.Compiler.{ContainerState, State, with_child, compiled, enter_checks, entered, exit_checks, last_checks, leave, point_of, rule_checks, tree_of}
use Rattle.markdown_grammar.specs.Refusals.{rule_error, missing_error, value_error}
use Rattle.markdown_steps.specs.Extents.{last_event}
use Rattle.markdown_grammar.specs.Grammar.{rules}
use Rattle.markdown_grammar.specs.Grammar.{ContentModel, character_reference, leaf}
use Rattle.markdown_steps.specs.Summaries.{Summary}
use Rattle.markdown_grammar.specs.Document.{length_between}
use Rattle.markdown_grammar.specs.Refusals.{ErrorAt}
use Rattle.markdown_steps.specs.Checks.{checked, refused, ◌>>=◌}
use Rattle.markdown_grammar.specs.Grammar.{Rule, none_of, at_most_one, only, only_before, only_after}
use Rattle.markdown_steps.specs.Siblings.{Marks}
use Rattle.markdown_grammar.specs.Document.{Source}
use Rattle.markdown_events.specs.declared.around.Around.{Around}
use Rattle.markdown_grammar.specs.declared.error_kind.ErrorKind.{ErrorKind}
use Rattle.markdown_events.specs.declared.role.ItemKind.TheVariants.{Content as content, Part as part}
use Rattle.markdown_events.specs.declared.role.Content.TheVariants as contents
use Rattle.markdown_events.specs.declared.role.Part.TheVariants as parts
use Rattle.markdown_events.specs.declared.role.Role.TheVariants.{Transparent as transparent, Significant as significant}
use Rattle.markdown_grammar.specs.declared.error_kind.ErrorKind.TheVariants.{Held, HeadingDepth, InvalidListValue, InvalidSlice, Unbalanced, UnfinishedBreak, UnknownReference}

abbrev is_unbalanced : ErrorKind → Bool
is_unbalanced Unbalanced = true
is_unbalanced _ = false

-- ---- No test but those of exits and of the end refuses so

abbrev balanced : List (Bool × ErrorKind) → Bool
balanced [] = true
balanced (c ∷ cs) = not (is_unbalanced c.1) && balanced cs

rule_error-is : (h : ContentModel) (r : Rule) → is_unbalanced (rule_error h r) ≡ false
rule_error-is h (at_most_one ps) = refl
rule_error-is h (none_of ps) = refl
rule_error-is character_reference (only_before ps test) = refl
rule_error-is h (only_before ps test) = refl
rule_error-is h (only_after ps test) = refl
rule_error-is h (only test) = refl

missing_error-is : (h : ContentModel) → is_unbalanced (missing_error h) ≡ false
missing_error-is leaf = refl
missing_error-is h = refl

if-is : (b : Bool) (why : ErrorKind) → is_unbalanced why ≡ false → is_unbalanced (cond b why InvalidSlice) ≡ false
if-is true why h = h
if-is false why h = refl

unread-is : (s : Source) (what : ItemKind) (a b : Point) → is_unbalanced (value_error s what a b) ≡ false
unread-is s (part parts.CharacterReferenceValue) a b = if-is (is_some (slice s.bytes a b)) UnknownReference refl
unread-is s (part parts.ListItemValue) a b = if-is (is_some (slice s.bytes a b)) InvalidListValue refl
unread-is s (part parts.HeadingAtxSequence) a b = if-is (is_some (length_between s.bytes a b)) HeadingDepth refl
unread-is s (content contents.Data) a b = refl
unread-is s what a b = refl

rules-balanced : (h : ContentModel) (rs : List Rule) (i : Summary) (what : ItemKind) (cs : List (Bool × ErrorKind)) → balanced cs ≡ true → balanced (rule_checks h rs i what cs) ≡ true
rules-balanced h [] i what cs f = f
rules-balanced h (r ∷ rs) i what cs f = ap (λ b. not b && balanced (rule_checks h rs i what cs)) (rule_error-is h r) ∙ rules-balanced h rs i what cs f

enter-balanced : (s : Source) (top : ContainerState) (what : ItemKind) (p : Point) → balanced (enter_checks s top what p) ≡ true
enter-balanced s top what p = rules-balanced top.initial_model (rules top.initial_model) top.inner what _ refl

exit-balanced : (s : Source) (top : ContainerState) (what : ItemKind) (a b : Point) (own : ContainerState) → balanced (exit_checks s top what a b own) ≡ true
exit-balanced s top what a b own = λ t. not (missing_error-is own.initial_model t) && (not (unread-is s what a b t) && true)

-- ---- No step over a forest does

abbrev Balanced : ErrorAt → Type 0
Balanced m = is_unbalanced m.error_kind ≡ false

one_balanced : {A : Type 0} (b u g : Bool) (x : Result A ErrorAt) (k m : ErrorAt) → (not u && g) ≡ true → is_unbalanced k.error_kind ≡ u → (g ≡ true → x ≡ Err m → Balanced m) → cond b x (Err k) ≡ Err m → Balanced m
one_balanced true false g x k m f e later h = later f h
one_balanced false false g x k m f e later h = ap (λ (j : ErrorAt). is_unbalanced j.error_kind) (sym (err_is k m h)) ∙ e
one_balanced b true g x k m f e later h = let z : ⊥ = cc in absurd z

checked_balanced : {A : Type 0} (cs : List (Bool × ErrorKind)) (p : Point) (r : Result A ErrorAt) (m : ErrorAt) → balanced cs ≡ true → (r ≡ Err m → Balanced m) → checked cs p r ≡ Err m → Balanced m
checked_balanced [] p r m f later h = later h
checked_balanced (c ∷ cs) p r m f later h = one_balanced c.0 (is_unbalanced c.1) (balanced cs) (checked cs p r) (record { error_kind = c.1; point = p }) m f refl (λ g k. checked_balanced cs p r m g later k) h

bind_balanced : {A B : Type 0} (r : Result A ErrorAt) (f : A → Result B ErrorAt) (m : ErrorAt) → (r ≡ Err m → Balanced m) → ((x : A) → f x ≡ Err m → Balanced m) → (r >>= f) ≡ Err m → Balanced m
bind_balanced (Ok x) f m first later h = later x h
bind_balanced (Err k) f m first later h = first (ap (λ (j : ErrorAt). Err j) (err_is k m h))

done_balanced : {A : Type 0} (x : A) (m : ErrorAt) → done x ≡ Err m → Balanced m
done_balanced x m h = absurd cc

leave_balanced : (s : Source) (what : ItemKind) (a b : Point) (c : ChildFacts) (own top : ContainerState) (m : ErrorAt) → leave s what a b c own top ≡ Err m → Balanced m
unfolding leave
leave_balanced s what a b c own top m h =
    checked_balanced (exit_checks s top what a b own) b (Ok (with_child s top what a b c own.inner)) m (exit-balanced s top what a b own) (done_balanced (with_child s top what a b c own.inner) m) h

as_balanced : (s : Source) (role : Role) (a b : Point) (k : Marks) (inside after : Reached → Result Reached ErrorAt) (x : Reached) (m : ErrorAt)
    → ((y : Reached) → inside y ≡ Err m → Balanced m) → ((y : Reached) → after y ≡ Err m → Balanced m) → eval_as s role a b k inside after x ≡ Err m → Balanced m
as_balanced s (transparent j) a b k inside after x m fi fa h = bind_balanced (inside (begun (transparent j) x x.top)) (λ y. after (ended (transparent j) k y y.top)) m (fi (begun (transparent j) x x.top)) (λ y. fa (ended (transparent j) k y y.top)) h
as_balanced s (significant what) a b k inside after x m fi fa h =
    let begins : Reached = begun (significant what) x (entered x.top what) in
    let on : Reached → Result Reached ErrorAt = λ y. leave s what a b (child_facts k y.columns) y.top x.top >>= λ t. after (ended (significant what) k y t) in
    checked_balanced (enter_checks s x.top what a) a (inside begins >>= on) m (enter-balanced s x.top what a)
    (bind_balanced (inside begins) on m (fi begins)
    (λ y. bind_balanced (leave s what a b (child_facts k y.columns) y.top x.top) (λ t. after (ended (significant what) k y t)) m (leave_balanced s what a b (child_facts k y.columns) y.top x.top m) (λ t. fa (ended (significant what) k y t)))) h

eval_balanced : (s : Source) (around : Around) (f : Forest) (x : Reached) (m : ErrorAt) → eval s around f x ≡ Err m → Balanced m
eval_balanced s around empty x m h = done_balanced x m h
eval_balanced s around (span n a b c r) x m h =
    checked_balanced ((may_begin around (role_of n), Held) ∷ []) a (eval_as s (role_of n) a b (marks c) (λ y. eval s (under around (role_of n)) c y) (λ y. eval s around r y) x) m refl
    (as_balanced s (role_of n) a b (marks c) (λ y. eval s (under around (role_of n)) c y) (λ y. eval s around r y) x m (λ y k. eval_balanced s (under around (role_of n)) c y m k) (λ y k. eval_balanced s around r y m k)) h

-- ---- So a spelling is not

last_balanced : (b : Bool) (p : Point) (t : Tree) (m : ErrorAt) → cond b (done t) (refused UnfinishedBreak p) ≡ Err m → Balanced m
last_balanced true p t m h = done_balanced t m h
last_balanced false p t m h = ap (λ (j : ErrorAt). is_unbalanced j.error_kind) (sym (err_is {A = Tree} (record { error_kind = UnfinishedBreak; point = p }) m h))

over_balanced : (r : Result Reached ErrorAt) (k : Marks) (g : State → Result Tree ErrorAt) (m : ErrorAt) → (r ≡ Err m → Balanced m) → ((y : Reached) → g (at [] in_the_open k y) ≡ Err m → Balanced m)
    → ((r >>= λ y. done (at [] in_the_open k y)) >>= g) ≡ Err m → Balanced m
over_balanced (Ok y) k g m first later h = later y h
over_balanced (Err j) k g m first later h = first (ap (λ (x : ErrorAt). Err x) (err_is j m h))

pub events-balanced : (s : Source) (f : Forest) (m : ErrorAt) → compiled s (events_of f) ≡ Err m → m.error_kind ≢ Unbalanced
events-balanced s f m h e =
    let last : Point = point_of (last_event (events_of f)) in
    let on : State → Result Tree ErrorAt = λ st. checked (last_checks st) last (done (tree_of (events_of f) st)) in
    let fair : Balanced m = over_balanced (eval s in_the_open f start) (marks f) on m (eval_balanced s in_the_open f start m)
    (λ y k. last_balanced (not y.top.after_break) last (tree_of (events_of f) (at [] in_the_open (marks f) y)) m k) (ap (λ (r : Result State ErrorAt). r >>= on) (sym (over-all s f)) ∙ h) in
    let z : true ≡ false = ap is_unbalanced (sym e) ∙ fair in absurd cc

-- a list is refused as unbalanced only where it is that of no forest at all
pub unbalanced : (s : Source) (es : List Event) (m : ErrorAt) → compiled s es ≡ Err m → m.error_kind ≡ Unbalanced → (f : Forest) → events_of f ≢ es
unbalanced s es m h why f e = events-balanced s f m (ap (compiled s) e ∙ h) why
