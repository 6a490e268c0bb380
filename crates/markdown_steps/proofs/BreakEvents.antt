-- The last item before an event is a hard break where the last event of a significant span before it is the exit of one.
use Rattle.std.proofs.Common.{◌≡◌, ◌++◌, ◌∷◌, [], Bool, List, false, refl, sym, ap, true, ◌∙◌}
use Rattle.markdown_events.specs.Forest.{Forest, empty, events_of, span}
use Rattle.markdown_events.specs.Names.{role_of}
use Rattle.markdown_events.specs.declared.event.Event.{Event}
use Rattle.markdown_events.specs.declared.event.Kind.TheVariants.{Enter, Exit}
use Rattle.markdown_events.specs.declared.event.Point.{Point}
use Rattle.markdown_events.specs.declared.role.ItemKind.{ItemKind}
use Rattle.markdown_events.specs.declared.role.Role.{Role}
use Rattle.markdown_events.specs.declared.role.Role.TheVariants.{Significant as significant, Transparent as transparent}
use Rattle.markdown_events.specs.declared.role.ItemKind.TheVariants.{Content as content}
use Rattle.markdown_events.specs.declared.role.Content.TheVariants as contents
use Rattle.markdown_grammar.specs.Accepted.{ends_with_break}
use Rattle.markdown_grammar.specs.Document.{Source}
use Rattle.markdown_grammar.specs.Items.{Items, is_hard_break, item, items, none, place_items, ◌then◌}
use Rattle.markdown_grammar.specs.Reasons.{IsWrong, enters, exits, held, unmatched}
use Rattle.markdown_grammar.specs.Sites.{Ancestor, Site, events_so_far, site_in, site_of}
use Rattle.markdown_grammar.specs.declared.error_kind.ErrorKind.TheVariants.{UnfinishedBreak}
use Rattle.markdown_steps.proofs.Sayings.{enter_says, exit_says}
use Rattle.markdown_steps.specs.Consequences.{FollowsBreak, ends_with_break_exit, exits_break, exits_break_last}

-- ---- Items

-- whether the last of these items is a hard break, and as before them where there is none
abbrev break_last : Items → Bool → Bool
break_last none before = before
break_last (item what _ _ _ _ rest) before = break_last rest (is_hard_break what)

break_last-then : (xs ys : Items) (before : Bool) → break_last (xs then ys) before ≡ break_last ys (break_last xs before)
break_last-then none ys before = refl
break_last-then (item what _ _ _ _ rest) ys before = break_last-then rest ys (is_hard_break what)

ends-break : (xs : Items) → ends_with_break xs ≡ break_last xs false
ends-break none = refl
ends-break (item what a b c i none) = alone what a b c i
  where
    alone : (what : ItemKind) (a b : Point) (c : Forest) (i : Items) → ends_with_break (item what a b c i none) ≡ is_hard_break what
    alone (content contents.HardBreak) a b c i = refl
    alone what a b c i = refl
ends-break (item what a b c i (item w d e f j rest)) = later what a b c i w d e f j rest ∙ ends-break (item w d e f j rest)
  where
    later : (what : ItemKind) (a b : Point) (c : Forest) (i : Items) (w : ItemKind) (d e : Point) (f : Forest) (j rest : Items)
        → ends_with_break (item what a b c i (item w d e f j rest)) ≡ ends_with_break (item w d e f j rest)
    later (content contents.HardBreak) a b c i w d e f j rest = refl
    later what a b c i w d e f j rest = refl

-- ---- Events

exits-append : (xs ys : List Event) (before : Bool) → exits_break_last (xs ++ ys) before ≡ exits_break_last ys (exits_break_last xs before)
exits-append [] ys before = refl
exits-append (x ∷ xs) ys before = exits-append xs ys (exits_break x.kind (role_of x.name) before)

-- the events of a forest say it of its items
forest-break : (f : Forest) (before : Bool) → exits_break_last (events_of f) before ≡ break_last (items f) before
forest-break empty before = refl
forest-break (span n a b c r) before =
    exits-append (events_of c) _ (exits_break Enter (role_of n) before)
    ∙ forest-break r (exits_break Exit (role_of n) (exits_break_last (events_of c) (exits_break Enter (role_of n) before)))
    ∙ ap (λ (z : Bool). break_last (items r) (exits_break Exit (role_of n) z)) (forest-break c (exits_break Enter (role_of n) before))
    ∙ by-role (role_of n) a b c (items c) (items r) before
  where
    by-role : (role : Role) (a b : Point) (c : Forest) (inner rest : Items) (before : Bool)
        → break_last rest (exits_break Exit role (break_last inner (exits_break Enter role before))) ≡ break_last (place_items role a b c inner rest) before
    by-role (transparent k) a b c inner rest before = sym (break_last-then inner rest before)
    by-role (significant what) a b c inner rest before = refl

-- and so do those of closed spans, and of open ones after them
site-break : (f : Forest) (path : List Ancestor) → ends_with_break_exit (events_so_far f path) ≡ break_last (site_of f path).before false
site-break f [] = forest-break f false
site-break f (e ∷ path) =
    exits-append (events_so_far f path) _ false
    ∙ forest-break e.inside (exits_break Enter (role_of e.name) (ends_with_break_exit (events_so_far f path)))
    ∙ ap (λ (z : Bool). break_last (items e.inside) (exits_break Enter (role_of e.name) z)) (site-break f path)
    ∙ by-role (role_of e.name) (items e.inside) (site_of f path)
  where
    by-role : (role : Role) (xs : Items) (site : Site) → break_last xs (exits_break Enter role (break_last site.before false)) ≡ break_last (site_in role xs site).before false
    by-role (transparent k) xs site = sym (break_last-then site.before xs false)
    by-role (significant what) xs site = refl

break-before : (f : Forest) (path : List Ancestor) → ends_with_break (site_of f path).before ≡ true → ends_with_break_exit (events_so_far f path) ≡ true
break-before f path h = site-break f path ∙ sym (ends-break (site_of f path).before) ∙ h

-- the items of the innermost open span are what is before, where it is significant
break-inside : (f : Forest) (path : List Ancestor) (e : Ancestor) (outer : List Ancestor) (what : ItemKind) → path ≡ e ∷ outer → role_of e.name ≡ significant what
    → ends_with_break (items e.inside) ≡ true → ends_with_break (site_of f path).before ≡ true
break-inside f path e outer what is role h =
    ap (λ (p : List Ancestor). ends_with_break (site_of f p).before) is
    ∙ ap (λ (r : Role). ends_with_break (site_in r (items e.inside) (site_of f outer)).before) role
    ∙ h

-- ---- Refusals

-- an event at which a break is unfinished follows the break's exit
pub follows_break : (s : Source) (f : Forest) (path : List Ancestor) (event : Event) → IsWrong s f path event UnfinishedBreak → FollowsBreak (events_so_far f path) event
follows_break s f path event (held enter bad why) = let z : ⊥ = cc in absurd z
follows_break s f path event (enters what enter may role fits wrong) =
    let said = enter_says s (site_of f path) what event.point UnfinishedBreak fits wrong in
    record { what = what; is_significant = role; is_no_line_ending = λ _. said.1; after_break = break-before f path said.0 }
follows_break s f path event (unmatched exit closed why) = let z : ⊥ = cc in absurd z
follows_break s f path event (exits e outer what exit is same role wrong) =
    let said = exit_says s _ UnfinishedBreak wrong in
    record {
      what = what;
      is_significant = ap role_of (sym same) ∙ role;
      is_no_line_ending = λ enter. (let z : ⊥ = cc in absurd z);
      after_break = break-before f path (break-inside f path e outer what is role said);
    }

-- and where a break is unfinished at the end, its exit is the last
pub ends_after_break : (f : Forest) → ends_with_break (items f) ≡ true → ends_with_break_exit (events_of f) ≡ true
ends_after_break f h = break-before f [] h
