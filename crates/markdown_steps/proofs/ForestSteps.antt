-- The steps over a whole forest, by recursion on it: where it is well-formed, they are those over its items.
use Rattle.std.proofs.Common.{◌≡◌, Bool, true, false, ◌&&◌, ◌||◌, [], ◌∷◌, Option, Some, Result, Ok, refl, sym, ◌∙◌, ap}
use Rattle.std.specs.Option.{option_and_then}
use Rattle.markdown_events.specs.Forest.{Forest, empty, span}
use Rattle.markdown_events.specs.Names.{role_of}
use Rattle.markdown_steps.specs.ChildFacts.{child_facts_of}
use Rattle.markdown_events.specs.declared.event.Point.{Point}
use Rattle.markdown_events.specs.declared.role.ItemKind.{ItemKind}
use Rattle.markdown_events.specs.declared.role.Role.{Role}
use Rattle.markdown_steps.proofs.ColumnKinds.{columns_past, is_table_role}
use Rattle.markdown_steps.proofs.ItemSteps.{walk}
use Rattle.markdown_steps.proofs.Outcomes.{ok, ok-bind, ok-checked, then-same, then-then, then-when, then-where, when, when-and, when-swap, when-then, when-where}
use Rattle.markdown_steps.proofs.WellFormed.{is_well_formed_in, shaped-right}
use Rattle.markdown_steps.proofs.SiblingMarks.{marks}
use Rattle.markdown_steps.proofs.TableSteps.{exit-shows, walk-in-table}
use Rattle.markdown_events.specs.Around.{may_begin, under}
use Rattle.markdown_steps.specs.Columns.{Columns, columns_entered, columns_left, child_facts}
use Rattle.markdown_steps.specs.Compiler.{ContainerState, with_child, enter_checks, entered, exit_checks, leave}
use Rattle.markdown_grammar.specs.Items.{Items, item, items, none, place_items, ◌then◌}
use Rattle.markdown_grammar.specs.Refusals.{ErrorAt}
use Rattle.markdown_steps.specs.Checks.{checked, passes, ◌>>=◌}
use Rattle.markdown_steps.specs.Siblings.{Marks}
use Rattle.markdown_grammar.specs.Document.{Source}
use Rattle.markdown_events.specs.declared.around.Around.{Around}
use Rattle.markdown_events.specs.declared.role.Role.TheVariants.{Transparent as transparent, Significant as significant}
use Rattle.markdown_grammar.specs.declared.error_kind.ErrorKind.TheVariants.{Held}

-- what the steps over spans lead to: the innermost container, and the columns of the table
pub record Reached : Type 0 where
  pub top : ContainerState
  pub columns : Columns

abbrev pub reached : ContainerState → Columns → Reached
reached top columns = record { top = top; columns = columns }

-- after an enter, and after an exit
abbrev pub begun : Role → Reached → ContainerState → Reached
begun role x top = reached top (columns_entered x.top.place.in_table role x.columns)

abbrev pub ended : Role → Marks → Reached → ContainerState → Reached
ended role m x top = reached top (columns_left role m x.columns)

-- one span and those after it, by its role
abbrev pub eval_as : Source → Role → Point → Point → Marks → (Reached → Result Reached ErrorAt) → (Reached → Result Reached ErrorAt) → Reached → Result Reached ErrorAt
eval_as s (transparent k) a b m inside after x = inside (begun (transparent k) x x.top) >>= λ y. after (ended (transparent k) m y y.top)
eval_as s (significant what) a b m inside after x =
    checked (enter_checks s x.top what a) a (inside (begun (significant what) x (entered x.top what)) >>= λ y. leave s what a b (child_facts m y.columns) y.top x.top >>= λ top. after (ended (significant what) m y top))

abbrev pub eval : Source → Around → Forest → Reached → Result Reached ErrorAt
eval s around empty x = Ok x
eval s around (span n a b c r) x =
    checked ((may_begin around (role_of n), Held) ∷ []) a (eval_as s (role_of n) a b (marks c) (λ y. eval s (under around (role_of n)) c y) (λ y. eval s around r y) x)

ok-leave : (s : Source) (what : ItemKind) (a b : Point) (m : Marks) (columns : Columns) (own top : ContainerState)
    → ok (leave s what a b (child_facts m columns) own top) ≡ when (passes (exit_checks s top what a b own)) (Some (with_child s top what a b (child_facts m columns) own.inner))
unfolding leave
ok-leave s what a b m columns own top = ok-checked (exit_checks s top what a b own) b (Ok (with_child s top what a b (child_facts m columns) own.inner))

pub walk-then : (s : Source) (xs ys : Items) (top : ContainerState) → walk s top (xs then ys) ≡ option_and_then (λ (t : ContainerState). walk s t ys) (walk s top xs)
walk-then s none ys top = refl
walk-then s (item what a b d i rest) ys top =
    let e : Bool = passes (enter_checks s top what a) in
    let out : ContainerState → ContainerState = λ own. with_child s top what a b (child_facts_of d) own.inner in
    let x : ContainerState → Bool = λ own. passes (exit_checks s top what a b own) in
    let on : ContainerState → Option ContainerState = λ t. walk s t ys in
    let inside : Option ContainerState = walk s (entered top what) i in
    ap (when e)
    (then-same inside (λ own. when (x own) (walk s (out own) (rest then ys))) (λ own. option_and_then on (when (x own) (walk s (out own) rest)))
    (λ own. ap (when (x own)) (walk-then s rest ys (out own)) ∙ sym (when-then (x own) (walk s (out own) rest) on))
    ∙ sym (then-then inside (λ own. when (x own) (walk s (out own) rest)) on))
    ∙ sym (when-then e (option_and_then (λ own. when (x own) (walk s (out own) rest)) inside) on)

-- a container, with these columns
abbrev pub giving : Columns → Option ContainerState → Option Reached
giving columns o = option_and_then (λ (t : ContainerState). Some (reached t columns)) o

-- what is shown of a forest
abbrev Walks : Source → Around → Forest → Type 0
Walks s around f = (x : Reached) → ok (eval s around f x) ≡ when (is_well_formed_in around f) (giving (columns_past x.top.place.in_table x.columns f) (walk s x.top (items f)))

or-false : (b : Bool) → (b || false) ≡ b
or-false true = refl
or-false false = refl

-- the columns after the children of a span, and after the span
abbrev columns_in : Role → Reached → Forest → Columns
columns_in role x c = columns_past (x.top.place.in_table || is_table_role role) (columns_entered x.top.place.in_table role x.columns) c

abbrev columns_out : Role → Reached → Forest → Columns
columns_out role x c = columns_left role (marks c) (columns_in role x c)

by-role : (s : Source) (role : Role) (b : Bool) (around : Around) (a e : Point) (c r : Forest) (x : Reached) → Walks s (under around role) c → Walks s around r
    → ok (checked ((b, Held) ∷ []) a (eval_as s role a e (marks c) (λ y. eval s (under around role) c y) (λ y. eval s around r y) x))
    ≡ when (b && (is_well_formed_in (under around role) c && is_well_formed_in around r)) (giving (columns_past x.top.place.in_table (columns_out role x c) r) (walk s x.top (place_items role a e c (items c) (items r))))
by-role s (transparent k) b around a e c r x hi ha =
    let role : Role = transparent k in
    let top : ContainerState = x.top in
    let in_shape : Bool = is_well_formed_in (under around role) c in
    let out_shape : Bool = is_well_formed_in around r in
    let inside : Result Reached ErrorAt = eval s (under around role) c (begun role x top) in
    let after : Reached → Result Reached ErrorAt = λ y. eval s around r (ended role (marks c) y y.top) in
    let made : Columns = columns_in role x c in
    let left : Columns = columns_past top.place.in_table (columns_out role x c) r in
    let on : ContainerState → Option Reached = λ t. ok (after (reached t made)) in
    let last : ContainerState → Option Reached = λ t. Some (reached t left) in
    ok-checked ((b, Held) ∷ []) a (inside >>= after)
    ∙ ap (when (b && true))
    (ok-bind inside after
    ∙ ap (option_and_then (λ (y : Reached). ok (after y)))
    (hi (begun role x top) ∙ ap (λ (t : Bool). when in_shape (giving (columns_past t (columns_entered top.place.in_table role x.columns) c) (walk s top (items c)))) (sym (or-false top.place.in_table)))
    ∙ when-then in_shape (giving made (walk s top (items c))) (λ (y : Reached). ok (after y))
    ∙ ap (when in_shape)
    (then-then (walk s top (items c)) (λ (t : ContainerState). Some (reached t made)) (λ (y : Reached). ok (after y))
    ∙ then-where (walk s top (items c)) on (λ t. when out_shape (option_and_then last (walk s t (items r))))
    (λ t h. ha (ended role (marks c) (reached t made) t)
    ∙ ap (λ (in_table : Bool). when out_shape (giving (columns_past in_table (columns_out role x c) r) (walk s t (items r)))) (walk-in-table s top t (items c) h))
    ∙ then-when out_shape (walk s top (items c)) (λ (t : ContainerState). option_and_then last (walk s t (items r)))
    ∙ ap (when out_shape)
    (sym (then-then (walk s top (items c)) (λ (t : ContainerState). walk s t (items r)) last)
    ∙ ap (option_and_then last) (sym (walk-then s (items c) (items r) top)))))
    ∙ when-and b in_shape out_shape (giving left (walk s top (items c then items r)))
by-role s (significant what) b around a e c r x hi ha =
    let role : Role = significant what in
    let top : ContainerState = x.top in
    let in_shape : Bool = is_well_formed_in (under around role) c in
    let out_shape : Bool = is_well_formed_in around r in
    let begins : Reached = begun role x (entered top what) in
    let inside : Result Reached ErrorAt = eval s (under around role) c begins in
    let after : Reached → Result Reached ErrorAt = λ y. eval s around r y in
    let made : Columns = columns_in role x c in
    let out : Columns = columns_out role x c in
    let left : Columns = columns_past top.place.in_table out r in
    let out_of : ContainerState → Result ContainerState ErrorAt = λ own. leave s what a e (child_facts (marks c) made) own top in
    let on : Reached → Result Reached ErrorAt = λ y. leave s what a e (child_facts (marks c) y.columns) y.top top >>= λ t. after (ended role (marks c) y t) in
    let enters : Bool = passes (enter_checks s top what a) in
    let passing : ContainerState → Bool = λ own. passes (exit_checks s top what a e own) in
    let last : ContainerState → Option Reached = λ t. Some (reached t left) in
    let below : Option ContainerState = walk s (entered top what) (items c) in
    let go : ContainerState → Option ContainerState = λ own. when (passing own) (walk s (with_child s top what a e (child_facts_of c) own.inner) (items r)) in
    ok-checked ((b, Held) ∷ []) a (checked (enter_checks s top what a) a (inside >>= on))
    ∙ ap (when (b && true))
    (ok-checked (enter_checks s top what a) a (inside >>= on)
    ∙ ap (when enters)
    (ok-bind inside on
    ∙ ap (option_and_then (λ (y : Reached). ok (on y))) (hi begins)
    ∙ when-then in_shape (giving made below) (λ (y : Reached). ok (on y))
    ∙ when-where in_shape (option_and_then (λ (y : Reached). ok (on y)) (giving made below)) (when out_shape (giving left (option_and_then go below)))
    (λ well_formed.
    then-then below (λ (t : ContainerState). Some (reached t made)) (λ (y : Reached). ok (on y))
    ∙ then-where below (λ own. ok (on (reached own made))) (λ own. when out_shape (giving left (go own)))
    (λ own h.
    ok-bind (out_of own) (λ t. after (reached t out))
    ∙ ap (option_and_then (λ (t : ContainerState). ok (after (reached t out)))) (ok-leave s what a e (marks c) made own top)
    ∙ when-then (passing own) (Some (with_child s top what a e (child_facts (marks c) made) own.inner)) (λ (t : ContainerState). ok (after (reached t out)))
    ∙ ap (when (passing own))
    (ap (λ (t : ContainerState). ok (after (reached t out))) (exit-shows s top own what a e c x.columns (shaped-right (under around role) c well_formed) h)
    ∙ ha (reached (with_child s top what a e (child_facts_of c) own.inner) out))
    ∙ when-swap (passing own) out_shape (giving left (walk s (with_child s top what a e (child_facts_of c) own.inner) (items r)))
    ∙ ap (when out_shape) (sym (when-then (passing own) (walk s (with_child s top what a e (child_facts_of c) own.inner) (items r)) last)))
    ∙ then-when out_shape below (λ own. giving left (go own))
    ∙ ap (when out_shape) (sym (then-then below go last))))
    ∙ when-swap enters in_shape (when out_shape (giving left (option_and_then go below)))
    ∙ ap (when in_shape) (when-swap enters out_shape (giving left (option_and_then go below)) ∙ ap (when out_shape) (sym (when-then enters (option_and_then go below) last))))
    ∙ when-and b in_shape out_shape (giving left (when enters (option_and_then go below)))

-- over a forest the steps do what they do over its items
pub eval-walk : (s : Source) (around : Around) (f : Forest) → Walks s around f
eval-walk s around empty x = refl
eval-walk s around (span n a b c r) x =
    by-role s (role_of n) (may_begin around (role_of n)) around a b c r x (λ y. eval-walk s (under around (role_of n)) c y) (λ y. eval-walk s around r y)
