-- What the events of a forest do is what its items say.
use Rattle.std.proofs.Common.{◌≡◌, Bool, true, false, not, ◌&&◌, ◌||◌, List, [], ◌∷◌, ◌++◌, refl, sym, ◌∙◌, ap, append-nil, append_assoc, subst}
use Rattle.markdown_events.proofs.Booleans.{and-both}
use Rattle.markdown_events.specs.Forest.{Forest, empty, enter, events_of, exit, span}
use Rattle.markdown_events.specs.Names.{role_of}
use Rattle.markdown_events.specs.declared.event.Event.{Event}
use Rattle.markdown_events.specs.declared.event.Kind.TheVariants.{Enter, Exit}
use Rattle.markdown_events.specs.declared.event.Name.{Name}
use Rattle.markdown_events.specs.declared.event.Point.{Point}
use Rattle.markdown_events.specs.declared.role.Role.{Role}
use Rattle.markdown_events.specs.declared.role.Role.TheVariants.{Significant as significant, Transparent as transparent}
use Rattle.markdown_grammar.specs.Document.{Source}
use Rattle.markdown_grammar.specs.Items.{Items, item, items, none, place_items, ◌then◌}
use Rattle.markdown_grammar.specs.Meaning.{meaning}
use Rattle.mdast_util.specs.PlainText.{ended, text_in_lines}
use Rattle.markdown_words.proofs.TreeWords.{text-is}
use Rattle.markdown_words.specs.Saying.{Said, are_known, closed, suits, told}
use Rattle.markdown_words.specs.Settings.{fits, setting_after, setting_inside}
use Rattle.markdown_words.specs.Standings.{Standing, after_events, at_first, entered, left, left_of, moved, moved_by}

-- ---- Events of items

-- after the events of items
abbrev passed : Source → Standing → Items → Standing
passed s st none = st
passed s st (item what a b _ inner rest) = passed s (left s what b (passed s (entered what a st) inner)) rest

passed-then : (s : Source) (st : Standing) (xs ys : Items) → passed s st (xs then ys) ≡ passed s (passed s st xs) ys
passed-then s st none ys = refl
passed-then s st (item what a b d inner rest) ys = passed-then s (left s what b (passed s (entered what a st) inner)) rest ys

regroup : (name : Name) (a b : Point) (d rest : Forest) (es : List Event) → events_of (span name a b d rest) ++ es ≡ enter name a ∷ (events_of d ++ (exit name b ∷ (events_of rest ++ es)))
regroup name a b d rest es = ap (λ events. enter name a ∷ events) (append_assoc (events_of d) (exit name b ∷ events_of rest) es)

by-role : (s : Source) (st : Standing) (role : Role) (a b : Point) (d : Forest) (xs ys : Items) → passed s (moved_by s role Exit b (passed s (moved_by s role Enter a st) xs)) ys ≡ passed s st (place_items role a b d xs ys)
by-role s st (significant what) a b d xs ys = refl
by-role s st (transparent kind) a b d xs ys = sym (passed-then s st xs ys)

events-pass : (s : Source) (st : Standing) (f : Forest) (es : List Event) → after_events s st (events_of f ++ es) ≡ after_events s (passed s st (items f)) es
events-pass s st empty es = refl
events-pass s st (span name a b d rest) es =
    let begun : Standing = moved s (enter name a) st in
    let ended_it : Standing = moved s (exit name b) (passed s begun (items d)) in
    ap (after_events s st) (regroup name a b d rest es)
    ∙ events-pass s begun d (exit name b ∷ (events_of rest ++ es))
    ∙ events-pass s ended_it rest es
    ∙ ap (λ x. after_events s x es) (by-role s st (role_of name) a b d (items d) (items rest))

-- ---- What is said

-- after items: what is said, the same open items, and if nothing is strange, all of them are known
record HasPassed (s : Source) (st : Standing) (xs : Items) (new : Standing) : Type 0 where
  says : new.said ≡ told s st.setting xs st.said
  outer_is : new.outer ≡ st.outer
  was_known : new.strange ≡ false → st.strange ≡ false
  known_is : new.strange ≡ false → are_known s st.setting xs ≡ true

or-left : (a b : Bool) → (a || b) ≡ false → a ≡ false
or-left true b h = let z : ⊥ = cc in absurd z
or-left false b h = refl

not-or : (a b : Bool) → (a || not b) ≡ false → b ≡ true
not-or true b h = let z : ⊥ = cc in absurd z
not-or false true h = refl
not-or false false h = let z : ⊥ = cc in absurd z

has-passed : (s : Source) (st : Standing) (xs : Items) → HasPassed s st xs (passed s st xs)
has-passed s st none = record { says = refl; outer_is = refl; was_known = λ h. h; known_is = λ h. refl }
has-passed s st (item what a b d inner rest) =
    let begun : Standing = entered what a st in
    let within : Standing = passed s begun inner in
    let inside_it : HasPassed s begun inner within = has-passed s begun inner in
    let here : Standing = left_of s what b within ((record { setting = st.setting; start = a }) ∷ st.outer) in
    let same : left s what b within ≡ here = ap (left_of s what b within) inside_it.outer_is in
    let after : HasPassed s here rest (passed s here rest) = has-passed s here rest in
    let fit : Bool = fits st.setting.voice st.setting.in_label what in
    let suit : Bool = suits s st.setting.voice what a b in
    subst (λ (x : Standing). HasPassed s st (item what a b d inner rest) (passed s x rest)) (sym same)
    (record {
      says = after.says ∙ ap (λ (x : Said). told s (setting_after st.setting what) rest (closed s st.setting what a b x)) inside_it.says;
      outer_is = after.outer_is;
      was_known = λ h. or-left st.strange (not fit) (inside_it.was_known (or-left within.strange (not suit) (after.was_known h)));
      known_is = λ h.
          let still : within.strange ≡ false = or-left within.strange (not suit) (after.was_known h) in
          and-both (fit && are_known s (setting_inside st.setting what) inner && suit) (are_known s (setting_after st.setting what) rest)
          (and-both (fit && are_known s (setting_inside st.setting what) inner) suit
          (and-both fit (are_known s (setting_inside st.setting what) inner) (not-or st.strange fit (inside_it.was_known still)) (inside_it.known_is still))
          (not-or within.strange suit (after.was_known h)))
          (after.known_is h);
    })

-- if nothing is strange, what is said of the events of a forest is the text of its meaning
pub events-say : (s : Source) (f : Forest) → (after_events s at_first (events_of f)).strange ≡ false → ended (after_events s at_first (events_of f)).said.text ≡ text_in_lines (meaning s f)
events-say s f h =
    let same : after_events s at_first (events_of f) ≡ passed s at_first (items f) = ap (after_events s at_first) (sym (append-nil (events_of f))) ∙ events-pass s at_first f [] in
    let all : HasPassed s at_first (items f) (passed s at_first (items f)) = has-passed s at_first (items f) in
    ap (λ (x : Standing). ended x.said.text) same
    ∙ ap (λ (x : Said). ended x.text) all.says
    ∙ text-is s f at_first.said refl (all.known_is (sym (ap (λ (x : Standing). x.strange) same) ∙ h))

-- after two lists of events, one after the other
pub events-append : (s : Source) (st : Standing) (xs ys : List Event) → after_events s st (xs ++ ys) ≡ after_events s (after_events s st xs) ys
events-append s st [] ys = refl
events-append s st (x ∷ xs) ys = events-append s (moved s x st) xs ys
