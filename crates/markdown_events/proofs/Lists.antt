-- What the spelling of a forest does to the walk over a list.
use Rattle.std.proofs.Common.{◌≡◌, ℕ, suc, ◌==◌, List, ◌∷◌, ◌++◌, Bool, true, false, cond, ◌&&◌, ◌||◌, not, refl, sym, ap, ◌∙◌, arith}
use Rattle.std.proofs.lemmas.Bool.{ne_eqb}
use Rattle.markdown_events.specs.declared.event.Name.{Name}
use Rattle.markdown_events.specs.declared.event.Point.{Point}
use Rattle.markdown_events.specs.declared.event.Event.{Event}
use Rattle.markdown_events.specs.declared.infer.Child.{Child}
use Rattle.markdown_events.specs.declared.infer.Ends.{Ends}
use Rattle.markdown_events.specs.declared.role.Role.{Role}
use Rattle.markdown_events.specs.declared.role.Role.TheVariants.{Transparent as transparent, Significant as significant}
use Rattle.markdown_events.specs.declared.role.ItemKind.TheVariants.{Content as content}
use Rattle.markdown_events.specs.declared.role.Content.TheVariants as contents
use Rattle.markdown_events.specs.declared.role.TransparentKind.TheVariants as transparents
use Rattle.markdown_events.specs.Names.{role_of}
use Rattle.markdown_events.specs.Forest.{Forest, empty, span, events_of, enter, exit}
use Rattle.markdown_events.specs.Spread.{is_blank_line, is_space_or_tab, is_item_prefix, is_quote_prefix, begins_with, skip_space, some_blank_line, loose_item, some_loose_item, loose, last_first, reversed_onto, is_bare_end, ends_bare, follows_bare_item}
use Rattle.markdown_events.specs.Walks.{no_child, is_list_item, is_block_quote, no_ends, list_exited, list_walk}
use Rattle.markdown_events.proofs.Loose.{regroup, up, down, not-zero, not-one, kept, kept-exited}

not-two : (d : ℕ) → (suc (suc (suc d)) == 2) ≡ false
not-two d = ne_eqb (suc (suc (suc d))) 2 (λ e. absurd (omega arith))

-- the state, by the children so far at each depth, from the last to the first
abbrev pub at_list : Forest → Ends
at_list before = record { bare = follows_bare_item before; counts = false; prefix = no_child; inner = no_child; quote = false }

abbrev pub kept_ends : Forest → Child
kept_ends before = record { direct = ends_bare before; skipped = ends_bare (skip_space before) }

abbrev pub at_item : Bool → Bool → Forest → Ends
at_item bare counts before = record { bare = bare; counts = counts; prefix = kept is_item_prefix before; inner = kept_ends before; quote = false }

abbrev pub at_quote : Ends → Forest → Ends
at_quote ends before = record { bare = ends.bare; counts = ends.counts; prefix = ends.prefix; inner = ends.inner; quote = begins_with is_quote_prefix before }

enter-deep : (w : Bool) (n : Name) (a : Point) (d : ℕ) (ends : Ends) (es : List Event) → list_walk w (enter n a ∷ es) (suc (suc d)) ends ≡ list_walk w es (suc (suc (suc d))) ends
enter-deep w n a d ends es = rw (not-zero (suc d), not-one d, up (suc d)) refl

exit-deep : (w : Bool) (n : Name) (b : Point) (d : ℕ) (ends : Ends) (es : List Event) → list_walk w (exit n b ∷ es) (suc (suc d)) ends ≡ list_walk w es (suc d) (list_exited ends (suc d) n)
exit-deep w n b d ends es = rw (not-zero (suc d), down d) refl

unmoved : (ends : Ends) (d : ℕ) (n : Name) → list_exited ends (suc (suc (suc d))) n ≡ ends
unmoved ends d n = rw (not-zero (suc (suc d)), not-one (suc d), not-two d) refl

-- below the items of a list: what one span does, from what its children do and its exit
one-span : (w : Bool) (n : Name) (a b : Point) (c r : Forest) (more : List Event) (d : ℕ) (ends under : Ends)
    → ((es : List Event) → list_walk w (events_of c ++ es) (suc (suc (suc d))) ends ≡ list_walk w es (suc (suc (suc d))) under)
    → list_walk w (events_of (span n a b c r) ++ more) (suc (suc d)) ends ≡ list_walk w (events_of r ++ more) (suc (suc d)) (list_exited under (suc (suc d)) n)
one-span w n a b c r more d ends under h =
    enter-deep w n a d ends ((events_of c ++ (exit n b ∷ events_of r)) ++ more)
    ∙ ap (λ es. list_walk w es (suc (suc (suc d))) ends) (regroup n b (events_of c) (events_of r) more)
    ∙ h (exit n b ∷ (events_of r ++ more))
    ∙ exit-deep w n b (suc d) under (events_of r ++ more)

-- below the children of a block quote in an item nothing is kept
list-deep : (w : Bool) (f : Forest) (d : ℕ) (ends : Ends) (more : List Event) → list_walk w (events_of f ++ more) (suc (suc (suc d))) ends ≡ list_walk w more (suc (suc (suc d))) ends
list-deep w empty d ends more = refl
list-deep w (span n a b c r) d ends more =
    one-span w n a b c r more (suc d) ends ends (λ es. list-deep w c (suc d) ends es)
    ∙ ap (λ x. list_walk w (events_of r ++ more) (suc (suc (suc d))) x) (unmoved ends d n)
    ∙ list-deep w r d ends more

list-quote : (w : Bool) (f before : Forest) (ends : Ends) (more : List Event)
    → list_walk w (events_of f ++ more) 2 (at_quote ends before) ≡ list_walk w more 2 (at_quote ends (reversed_onto before f))
list-quote w empty before ends more = refl
list-quote w (span n a b c r) before ends more =
    one-span w n a b c r more 0 (at_quote ends before) (at_quote ends before) (λ es. list-deep w c 0 (at_quote ends before) es)
    ∙ list-quote w r (span n a b c before) ends more

-- what a span is at the end of an item
bare-end : (r : Role) (c : Forest) → (is_item_prefix r || (is_block_quote r && begins_with is_quote_prefix (last_first c))) ≡ is_bare_end r c
bare-end (transparent transparents.ListItemPrefix) c = refl
bare-end (significant (content contents.BlockQuote)) c = refl
bare-end r c = refl

ends-exited : (s it : Bool) (n : Name) (a b : Point) (c before : Forest) → it ≡ is_bare_end (role_of n) c
    → cond s (ends_bare before) it ≡ ends_bare (elim s [ true ↦ before | false ↦ span n a b c before ])
ends-exited true it n a b c before e = refl
ends-exited false it n a b c before e = e

item-exited : (bare counts : Bool) (n : Name) (a b : Point) (c before : Forest) → list_exited (at_quote (at_item bare counts before) (last_first c)) 1 n ≡ at_item bare counts (span n a b c before)
item-exited bare counts n a b c before =
    let e = bare-end (role_of n) c in
    (λ i. record { bare = bare; counts = counts; prefix = kept-exited is_item_prefix n a b c before i; inner = record { direct = e i; skipped = ends-exited (is_space_or_tab (role_of n)) _ n a b c before e i }; quote = false })

none-counts : (counts rest : Bool) → rest ≡ ((counts && false) || rest)
none-counts true rest = refl
none-counts false rest = refl

-- a span among the children of an item: whether it is a blank line that counts, or one after it does, or what comes after the item says so
one-counts : (counts follows blank after rest : Bool) → cond ((counts && not follows) && blank) true ((counts && after) || rest) ≡ ((counts && ((blank && not follows) || after)) || rest)
one-counts false follows blank after rest = refl
one-counts true true true after rest = refl
one-counts true true false after rest = refl
one-counts true false true after rest = refl
one-counts true false false after rest = refl

list-item : (w : Bool) (f before : Forest) (bare counts : Bool) (more : List Event)
    → list_walk w (events_of f ++ more) 1 (at_item bare counts before) ≡ ((counts && some_blank_line (λ x. not (begins_with is_item_prefix (skip_space x))) before f) || list_walk w more 1 (at_item bare counts (reversed_onto before f)))
list-item w empty before bare counts more = none-counts counts (list_walk w more 1 (at_item bare counts before))
list-item w (span n a b c r) before bare counts more =
    let state = at_item bare counts before in
    let follows = begins_with is_item_prefix (skip_space before) in
    let walked =
    ap (λ es. list_walk w es 2 state) (regroup n b (events_of c) (events_of r) more)
    ∙ list-quote w c empty state (exit n b ∷ (events_of r ++ more))
    ∙ exit-deep w n b 0 (at_quote state (last_first c)) (events_of r ++ more)
    ∙ ap (λ x. list_walk w (events_of r ++ more) 1 x) (item-exited bare counts n a b c before)
    ∙ list-item w r (span n a b c before) bare counts more in
    ap (λ x. cond ((counts && not follows) && is_blank_line (role_of n)) true x) walked
    ∙ one-counts counts follows (is_blank_line (role_of n)) (some_blank_line (λ x. not (begins_with is_item_prefix (skip_space x))) (span n a b c before) r) (list_walk w more 1 (at_item bare counts (reversed_onto (span n a b c before) r)))

follows : (r : Role) (c : Forest) → (is_list_item r && ends_bare (skip_space (last_first c))) ≡ elim r [ significant (content contents.ListItem) ↦ ends_bare (skip_space (last_first c)) | _ ↦ false ]
follows (significant (content contents.ListItem)) c = refl
follows r c = refl

list-exited : (bare counts : Bool) (n : Name) (a b : Point) (c before : Forest) → list_exited (at_item bare counts (last_first c)) 0 n ≡ at_list (span n a b c before)
list-exited bare counts n a b c before = (λ i. record { bare = follows (role_of n) c i; counts = false; prefix = no_child; inner = no_child; quote = false })

some-item : (r : Role) (x y : Bool) → elim r [ significant (content contents.ListItem) ↦ x || y | _ ↦ y ] ≡ ((is_list_item r && x) || y)
some-item (significant (content contents.ListItem)) x y = refl
some-item r x y = refl

or-yes : (b : Bool) → true ≡ (b || true)
or-yes true = refl
or-yes false = refl

or-turn : (x y z : Bool) → (x || (y || z)) ≡ (y || (x || z))
or-turn true y z = or-yes y
or-turn false y z = refl

items-last : (w is_item loose after some : Bool) → (((w && is_item) && loose) || (after || (w && some))) ≡ (after || (w && ((is_item && loose) || some)))
items-last true is_item loose after some = or-turn (is_item && loose) after some
items-last false is_item loose after some = refl

-- a child of a list: whether it is a blank line that counts, or one after it does, or an item is loose where that is asked
one-child : (bare blank w is_item loose after some : Bool) → cond (not bare && blank) true (((w && is_item) && loose) || (after || (w && some))) ≡ (((blank && not bare) || after) || (w && ((is_item && loose) || some)))
one-child true true w is_item loose after some = items-last w is_item loose after some
one-child true false w is_item loose after some = items-last w is_item loose after some
one-child false true w is_item loose after some = refl
one-child false false w is_item loose after some = items-last w is_item loose after some

list-children : (w : Bool) (f before : Forest) (n : Name) (p : Point) (more : List Event)
    → list_walk w (events_of f ++ (exit n p ∷ more)) 0 (at_list before) ≡ (some_blank_line (λ x. not (follows_bare_item x)) before f || (w && some_loose_item f))
list-children true empty before n p more = refl
list-children false empty before n p more = refl
list-children w (span m a b c r) before n p more =
    let tail = events_of r ++ (exit n p ∷ more) in
    let bare = follows_bare_item before in
    let counts = w && is_list_item (role_of m) in
    let after = some_blank_line (λ x. not (follows_bare_item x)) (span m a b c before) r in
    let walked =
    ap (λ es. list_walk w es 1 (at_item bare counts empty)) (regroup m b (events_of c) (events_of r) (exit n p ∷ more))
    ∙ list-item w c empty bare counts (exit m b ∷ tail)
    ∙ ap (λ x. (counts && loose_item c) || list_walk w tail 0 x) (list-exited bare counts m a b c before)
    ∙ ap (λ x. (counts && loose_item c) || x) (list-children w r (span m a b c before) n p more) in
    ap (λ x. cond (not bare && is_blank_line (role_of m)) true x) walked
    ∙ one-child bare (is_blank_line (role_of m)) w (is_list_item (role_of m)) (loose_item c) after (some_loose_item r)
    ∙ ap (λ x. ((is_blank_line (role_of m) && not bare) || after) || (w && x)) (sym (some-item (role_of m) (loose_item c) (some_loose_item r)))

-- the walk after a list's enter is the definition
pub list-walked : (w : Bool) (c : Forest) (n : Name) (p : Point) (more : List Event) → list_walk w (events_of c ++ (exit n p ∷ more)) 0 no_ends ≡ loose c w
list-walked w c n p more = list-children w c empty n p more
