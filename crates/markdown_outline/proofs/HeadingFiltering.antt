-- The filter passes on the events of the headings of a forest.
use Rattle.markdown_events.proofs.Booleans.{and-left, and-right, and-true, first-of, second-of, third-of}
use Rattle.std.proofs.Common.{◌≡◌, ℕ, suc, Bool, true, false, cond, not, ◌&&◌, List, [], ◌∷◌, ◌++◌, refl, sym, ◌∙◌, ap, append_assoc, append-nil}
use Rattle.std.proofs.lemmas.Bool.{not-true}
use Rattle.markdown_events.specs.Forest.{Forest, empty, enter, events_of, exit, span}
use Rattle.markdown_events.specs.declared.event.Event.{Event}
use Rattle.markdown_events.specs.declared.event.Name.{Name}
use Rattle.markdown_events.specs.declared.event.Point.{Point}
use Rattle.markdown_outline.proofs.NoHeadings.{and-assoc}
use Rattle.markdown_outline.specs.HeadingFilter.{Standing, after_all, closed, filtered, loses_heading, loses_none, moved, outside, passes_on, with_event, within}
use Rattle.markdown_outline.specs.Headings.{finds_all, has_no_heading, headings, headings_before, is_heading, is_searched}

-- ---- Events of spans

regroup : (name : Name) (a b : Point) (d rest : Forest) (es : List Event) → events_of (span name a b d rest) ++ es ≡ enter name a ∷ (events_of d ++ (exit name b ∷ (events_of rest ++ es)))
regroup name a b d rest es = ap (λ events. enter name a ∷ events) (append_assoc (events_of d) (exit name b ∷ events_of rest) es)

-- ---- What is passed on

-- nothing where no heading is searched for
closed-off : (n : ℕ) (f : Forest) (es : List Event) → filtered (closed n) (events_of f ++ es) ≡ filtered (closed n) es
closed-off n empty es = refl
closed-off n (span name a b d rest) es =
    ap (filtered (closed n)) (regroup name a b d rest es)
    ∙ closed-off (suc n) d (exit name b ∷ (events_of rest ++ es))
    ∙ closed-off n rest es

-- all in a heading
whole : (n : ℕ) (f : Forest) (es : List Event) → filtered (within n) (events_of f ++ es) ≡ events_of f ++ filtered (within n) es
whole n empty es = refl
whole n (span name a b d rest) es =
    ap (filtered (within n)) (regroup name a b d rest es)
    ∙ ap (λ events. enter name a ∷ events) (whole (suc n) d (exit name b ∷ (events_of rest ++ es)) ∙ ap (λ events. events_of d ++ (exit name b ∷ events)) (whole n rest es))
    ∙ sym (regroup name a b d rest (filtered (within n) es))

-- no headings in forests that have none
no-spans : (f others : Forest) → has_no_heading f ≡ true → headings_before f others ≡ others
no-spans empty others h = refl
no-spans (span name a b d rest) others h =
    let here : Bool = not (is_heading name) in
    let none_inside : has_no_heading d ≡ true = second-of here (has_no_heading d) (has_no_heading rest) h in
    let none_after : has_no_heading rest ≡ true = third-of here (has_no_heading d) (has_no_heading rest) h in
    ap (λ t. cond t (span name a b d (headings_before rest others)) (headings_before d (headings_before rest others))) (not-true (is_heading name) (first-of here (has_no_heading d) (has_no_heading rest) h))
    ∙ no-spans d (headings_before rest others) none_inside
    ∙ no-spans rest others none_after

filtered-before : (f others : Forest) (es : List Event) → finds_all f ≡ true → filtered outside es ≡ events_of others → filtered outside (events_of f ++ es) ≡ events_of (headings_before f others)
filtered-before empty others es o h = h
filtered-before (span name a b d rest) others es o h =
    let here : Bool = cond (is_heading name) true (cond (is_searched name) (finds_all d) (has_no_heading d)) in
    let back : List Event = exit name b ∷ (events_of rest ++ es) in
    let more : Forest = headings_before rest others in
    let after : filtered outside (events_of rest ++ es) ≡ events_of more = filtered-before rest others es (and-right here (finds_all rest) o) h in
    let inside : finds_all d ≡ true → filtered outside (events_of d ++ back) ≡ events_of (headings_before d more) = λ k. filtered-before d more back k after in
    ap (filtered outside) (regroup name a b d rest es)
    ∙ elim (is_heading name) as (λ t. cond t true (cond (is_searched name) (finds_all d) (has_no_heading d)) ≡ true
    → with_event t (enter name a) (filtered (cond t (within 0) (cond (is_searched name) outside (closed 0))) (events_of d ++ back)) ≡ events_of (cond t (span name a b d more) (headings_before d more))) [
      | true ↦ λ k. ap (λ events. enter name a ∷ events) (whole 0 d back ∙ ap (λ events. events_of d ++ (exit name b ∷ events)) after)
      | false ↦ elim (is_searched name) as (λ u. cond u (finds_all d) (has_no_heading d) ≡ true → filtered (cond u outside (closed 0)) (events_of d ++ back) ≡ events_of (headings_before d more)) [
        | true ↦ λ k. inside k
        | false ↦ λ k. closed-off 0 d back ∙ after ∙ ap events_of (sym (no-spans d more k))
      ]
    ] (and-left here (finds_all rest) o)

-- the filter passes on the events of the headings, if it finds all
pub filtered-is : (f : Forest) → finds_all f ≡ true → filtered outside (events_of f) ≡ events_of (headings f)
filtered-is f o = ap (filtered outside) (sym (append-nil (events_of f))) ∙ filtered-before f empty [] o refl

-- ---- Lost headings

loses-closed : (n : ℕ) (f : Forest) (es : List Event) → loses_none (closed n) (events_of f ++ es) ≡ (has_no_heading f && loses_none (closed n) es)
loses-closed n empty es = refl
loses-closed n (span name a b d rest) es =
    ap (loses_none (closed n)) (regroup name a b d rest es)
    ∙ ap (λ t. not (is_heading name) && t) (loses-closed (suc n) d (exit name b ∷ (events_of rest ++ es)) ∙ ap (λ t. has_no_heading d && t) (loses-closed n rest es))
    ∙ sym (and-assoc (not (is_heading name)) (has_no_heading d) (has_no_heading rest && loses_none (closed n) es))
    ∙ sym (and-assoc (not (is_heading name) && has_no_heading d) (has_no_heading rest) (loses_none (closed n) es))

loses-within : (n : ℕ) (f : Forest) (es : List Event) → loses_none (within n) (events_of f ++ es) ≡ loses_none (within n) es
loses-within n empty es = refl
loses-within n (span name a b d rest) es =
    ap (loses_none (within n)) (regroup name a b d rest es)
    ∙ loses-within (suc n) d (exit name b ∷ (events_of rest ++ es))
    ∙ loses-within n rest es

loses-before : (f : Forest) (es : List Event) → loses_none outside (events_of f ++ es) ≡ (finds_all f && loses_none outside es)
loses-before empty es = refl
loses-before (span name a b d rest) es =
    let back : List Event = exit name b ∷ (events_of rest ++ es) in
    let after : loses_none outside (events_of rest ++ es) ≡ (finds_all rest && loses_none outside es) = loses-before rest es in
    let inside : loses_none outside (events_of d ++ back) ≡ (finds_all d && loses_none outside back) = loses-before d back in
    ap (loses_none outside) (regroup name a b d rest es)
    ∙ elim (is_heading name) as (λ t. loses_none (cond t (within 0) (cond (is_searched name) outside (closed 0))) (events_of d ++ back)
    ≡ (cond t true (cond (is_searched name) (finds_all d) (has_no_heading d)) && (finds_all rest && loses_none outside es))) [
      | true ↦ loses-within 0 d back ∙ after
      | false ↦ elim (is_searched name) as (λ u. loses_none (cond u outside (closed 0)) (events_of d ++ back) ≡ (cond u (finds_all d) (has_no_heading d) && (finds_all rest && loses_none outside es))) [
        | true ↦ inside ∙ ap (λ t. finds_all d && t) after
        | false ↦ loses-closed 0 d back ∙ ap (λ t. has_no_heading d && t) after
      ]
    ]
    ∙ sym (and-assoc (cond (is_heading name) true (cond (is_searched name) (finds_all d) (has_no_heading d))) (finds_all rest) (loses_none outside es))

-- the filter finds all headings exactly if it loses none
pub loses-is : (f : Forest) → loses_none outside (events_of f) ≡ finds_all f
loses-is f = ap (loses_none outside) (sym (append-nil (events_of f))) ∙ loses-before f [] ∙ and-true (finds_all f)

-- ---- Event by event

with_event-append : (t : Bool) (e : Event) (xs ys : List Event) → with_event t e (xs ++ ys) ≡ with_event t e xs ++ ys
with_event-append true e xs ys = refl
with_event-append false e xs ys = refl

-- what is passed on of two lists is what is passed on of the first, then of the second
pub filtered-append : (p : Standing) (xs ys : List Event) → filtered p (xs ++ ys) ≡ filtered p xs ++ filtered (after_all p xs) ys
filtered-append p [] ys = refl
filtered-append p (e ∷ xs) ys =
    ap (with_event (passes_on p e.kind e.name) e) (filtered-append (moved p e.kind e.name) xs ys)
    ∙ with_event-append (passes_on p e.kind e.name) e (filtered (moved p e.kind e.name) xs) (filtered (after_all (moved p e.kind e.name) xs) ys)

pub after_all-append : (p : Standing) (xs ys : List Event) → after_all p (xs ++ ys) ≡ after_all (after_all p xs) ys
after_all-append p [] ys = refl
after_all-append p (e ∷ xs) ys = after_all-append (moved p e.kind e.name) xs ys

pub loses-append : (p : Standing) (xs ys : List Event) → loses_none p (xs ++ ys) ≡ (loses_none p xs && loses_none (after_all p xs) ys)
loses-append p [] ys = refl
loses-append p (e ∷ xs) ys =
    ap (λ t. not (loses_heading p e.kind e.name) && t) (loses-append (moved p e.kind e.name) xs ys)
    ∙ sym (and-assoc (not (loses_heading p e.kind e.name)) (loses_none (moved p e.kind e.name) xs) (loses_none (after_all (moved p e.kind e.name) xs) ys))
