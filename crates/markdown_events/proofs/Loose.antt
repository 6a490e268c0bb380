-- What the spelling of a forest does to the walks that look for blank lines.
use Rattle.std.proofs.Common.{◌≡◌, ℕ, suc, ◌+◌, ◌-◌, ◌==◌, List, [], ◌∷◌, ◌++◌, Bool, true, false, cond, ◌&&◌, ◌||◌, not, refl, sym, ap, ◌∙◌, append_assoc, arith, drop, take, length}
use Rattle.std.proofs.lemmas.List.{take_rest}
use Rattle.markdown_events.specs.Begins.{HasEventsAt}
use Prim.Native.Nat.{zero}
use Rattle.std.proofs.lemmas.Bool.{ne_eqb}
use Rattle.markdown_events.specs.declared.event.Name.{Name}
use Rattle.markdown_events.specs.declared.event.Point.{Point}
use Rattle.markdown_events.specs.declared.event.Event.{Event}
use Rattle.markdown_events.specs.declared.infer.Child.{Child}
use Rattle.markdown_events.specs.declared.role.Role.{Role}
use Rattle.markdown_events.specs.Names.{role_of}
use Rattle.markdown_events.specs.Forest.{Forest, empty, span, events_of, enter, exit}
use Rattle.markdown_events.specs.Spread.{is_blank_line, is_space_or_tab, is_item_prefix, begins_with, skip_space, some_blank_line, loose_item}
use Rattle.markdown_events.specs.Walks.{item_walk, child_exited, no_child}

pub regroup : (n : Name) (b : Point) (c r more : List Event) → (c ++ (exit n b ∷ r)) ++ more ≡ c ++ (exit n b ∷ (r ++ more))
regroup n b c r more = append_assoc c (exit n b ∷ r) more

pub up : (d : ℕ) → suc d + 1 ≡ suc (suc d)
up d = omega arith

pub down : (d : ℕ) → suc (suc d) - 1 ≡ suc d
down d = omega arith

pub one-more : (d : ℕ) → d + 1 ≡ suc d
one-more d = omega arith

pub not-zero : (d : ℕ) → (suc d == 0) ≡ false
not-zero d = ne_eqb (suc d) 0 (λ e. absurd (omega arith))

pub not-one : (d : ℕ) → (suc (suc d) == 1) ≡ false
not-one d = ne_eqb (suc (suc d)) 1 (λ e. absurd (omega arith))

-- below its children an item's walk sees nothing
item-enter-deep : (n : Name) (a : Point) (d : ℕ) (last : Child) (es : List Event) → item_walk (enter n a ∷ es) (suc d) last ≡ item_walk es (suc (suc d)) last
item-enter-deep n a d last es = rw (not-zero d, up d) refl

item-exit-deep : (n : Name) (b : Point) (d : ℕ) (last : Child) (es : List Event) → item_walk (exit n b ∷ es) (suc (suc d)) last ≡ item_walk es (suc d) last
item-exit-deep n b d last es = rw (not-zero (suc d), not-one d, down d) refl

pub item-deep : (f : Forest) (d : ℕ) (last : Child) (more : List Event) → item_walk (events_of f ++ more) (suc d) last ≡ item_walk more (suc d) last
item-deep empty d last more = refl
item-deep (span n a b c r) d last more =
    item-enter-deep n a d last ((events_of c ++ (exit n b ∷ events_of r)) ++ more)
    ∙ ap (λ es. item_walk es (suc (suc d)) last) (regroup n b (events_of c) (events_of r) more)
    ∙ item-deep c (suc d) last (exit n b ∷ (events_of r ++ more))
    ∙ item-exit-deep n b d last (events_of r ++ more)
    ∙ item-deep r d last more

-- what the walk keeps of the children so far, from the last to the first
abbrev pub kept : (Role → Bool) → Forest → Child
kept test before = record { direct = begins_with test before; skipped = begins_with test (skip_space before) }

skipped-exited : (s it : Bool) (test : Role → Bool) (n : Name) (a b : Point) (c before : Forest) → it ≡ test (role_of n)
    → cond s (begins_with test before) it ≡ begins_with test (elim s [ true ↦ before | false ↦ span n a b c before ])
skipped-exited true it test n a b c before e = refl
skipped-exited false it test n a b c before e = e

pub kept-exited : (test : Role → Bool) (n : Name) (a b : Point) (c before : Forest) → child_exited (kept test before) (test (role_of n)) n ≡ kept test (span n a b c before)
kept-exited test n a b c before = (λ i. record { direct = test (role_of n); skipped = skipped-exited (is_space_or_tab (role_of n)) (test (role_of n)) test n a b c before refl i })

counted : (blank bare x y : Bool) → x ≡ y → cond (blank && not bare) true x ≡ ((blank && not bare) || y)
counted true true x y e = e
counted true false x y e = refl
counted false bare x y e = e

item-children : (f before : Forest) (n : Name) (p : Point) (more : List Event)
    → item_walk (events_of f ++ (exit n p ∷ more)) 0 (kept is_item_prefix before) ≡ some_blank_line (λ x. not (begins_with is_item_prefix (skip_space x))) before f
item-children empty before n p more = refl
item-children (span m a b c r) before n p more =
    let state = kept is_item_prefix before in
    let tail = events_of r ++ (exit n p ∷ more) in
    counted (is_blank_line (role_of m)) (begins_with is_item_prefix (skip_space before)) _ _
    (ap (λ es. item_walk es 1 state) (regroup m b (events_of c) (events_of r) (exit n p ∷ more))
    ∙ item-deep c 0 state (exit m b ∷ tail)
    ∙ ap (λ s. item_walk tail 0 s) (kept-exited is_item_prefix m a b c before)
    ∙ item-children r (span m a b c before) n p more)

-- the walk after an item's enter is the definition
pub item-walked : (c : Forest) (n : Name) (p : Point) (more : List Event) → item_walk (events_of c ++ (exit n p ∷ more)) 0 no_child ≡ loose_item c
item-walked c n p more = item-children c empty n p more

-- what comes after the first of the rest
pub drop-tail : (xs : List Event) (i : ℕ) (x : Event) (ys : List Event) → drop i xs ≡ x ∷ ys → drop (i + 1) xs ≡ ys
drop-tail [] zero x ys h = absurd cc
drop-tail [] (suc i) x ys h = absurd cc
drop-tail (e ∷ es) zero x ys h = cc
drop-tail (e ∷ es) (suc i) x ys h = ap (λ k. drop k (e ∷ es)) (up i) ∙ ap (λ k. drop k es) (sym (one-more i)) ∙ drop-tail es i x ys h

-- what `&events[index + 1..]` holds, where a span begins at the index
pub after_enter : (events : List Event) (i : ℕ) (n : Name) (a b : Point) (c : Forest) (at : HasEventsAt events i (span n a b c empty))
    → take (length events - (i + 1)) (drop (i + 1) events) ≡ events_of c ++ (exit n b ∷ at.0)
after_enter events i n a b c at = take_rest events (i + 1) ∙ drop-tail events i (enter n a) _ at.1 ∙ regroup n b (events_of c) [] at.0
