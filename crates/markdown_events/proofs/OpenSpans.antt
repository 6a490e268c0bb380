-- What an enter and an exit do to the open spans of the walk.
use Rattle.std.proofs.Common.{◌≡◌, ℕ, ◌+◌, ◌==◌, Global, Vec, List, [], ◌∷◌, ◌++◌, Bool, true, false, cond, Option, Some, None, length, refl, sym, ap, ◌∙◌, subst, reverse, eq-eqb}
use Rattle.std.specs.Prelude.{vec_len}
use Rattle.std.proofs.lemmas.List.{length-reverse, reverse-append}
use Rattle.markdown_events.specs.declared.event.Event.{Event}
use Rattle.markdown_events.specs.declared.event.Kind.TheVariants.{Enter, Exit}
use Rattle.markdown_events.specs.declared.event.Name.{Name}
use Rattle.markdown_events.specs.declared.event.spans.Open.{Open}
use Rattle.markdown_events.specs.OpenSpans.{AreOpen, names_of, opened_in}
use Rattle.markdown_events.specs.Walks.{around_of, can_enter, exited, move, run}
use Rattle.markdown_events.specs.Names.{is_same_name}

-- the last of the spans is the innermost
on_top : (spans before : List Open) (span : Open) → spans ≡ before ++ span ∷ [] → reverse spans ≡ span ∷ reverse before
on_top spans before span is = ap (λ (x : List Open). reverse x) is ∙ reverse-append before (span ∷ [])

-- whether a span can begin, by whether one was made
made : (can : Bool) (span other : Open) → Some other ≡ cond can (Some span) None → (can ≡ true) × (other ≡ span)
made true span other h = (refl, cc)
made false span other h = absurd (let w : ⊥ = cc in w)

not_made : (can : Bool) (span : Open) → None ≡ cond can (Some span) None → can ≡ false
not_made true span h = absurd (let w : ⊥ = cc in w)
not_made false span h = refl

-- where a span cannot begin, the walk has no end
pub stops : (e : Event) (es : List Event) (names : List Name) (passed : ℕ) → e.kind ≡ Enter → None ≡ opened_in names e.name → run (e ∷ es) names passed ≡ None
stops e es names passed enters none =
    (λ t. move (enters t) e.name names passed (run es))
    ∙ ap (λ (b : Bool). cond b (run es (e.name ∷ names) (passed + 1)) None)
    (not_made (can_enter names e.name) (record { name = e.name; inside = around_of (e.name ∷ names) }) none)

-- where one begins, the walk goes on with it
pub begun : (e : Event) (es : List Event) (spans new : List Open) (span : Open) (passed : ℕ) → e.kind ≡ Enter → Some span ≡ opened_in (names_of (reverse spans)) e.name → new ≡ spans ++ span ∷ [] → AreOpen (reverse spans)
    → (run (e ∷ es) (names_of (reverse spans)) passed ≡ run es (names_of (reverse new)) (passed + 1)) × AreOpen (reverse new)
begun e es spans new span passed enters some grows are =
    let names : List Name = names_of (reverse spans) in
    let one : Open = record { name = e.name; inside = around_of (e.name ∷ names) } in
    let both = made (can_enter names e.name) one span some in
    let top : reverse new ≡ span ∷ reverse spans = on_top new spans span grows in (
      (λ t. move (enters t) e.name names passed (run es))
          ∙ ap (λ (b : Bool). cond b (run es (e.name ∷ names) (passed + 1)) None) both.0
          ∙ sym (ap (λ (x : List Open). run es (names_of x) (passed + 1)) top ∙ ap (λ (x : Open). run es (x.name ∷ names) (passed + 1)) both.1),
      subst AreOpen (sym top) (subst (λ (x : Open). x.inside ≡ around_of (x.name ∷ names)) (sym both.1) refl, are),
    )

-- where a span is still open after an exit, the walk goes on
goes_on : (names : List Name) (passed : ℕ) (next : List Name → ℕ → Option ℕ) → (names ≡ [] → ⊥) → exited names passed next ≡ next names (passed + 1)
goes_on [] passed next some = absurd (some refl)
goes_on (n ∷ names) passed next some = refl

no_names : (spans : List Open) → names_of spans ≡ [] → spans ≡ []
no_names [] h = refl
no_names (o ∷ os) h = absurd (let w : ⊥ = cc in w)

-- where one ends, it goes on with those around it
pub ended : (e : Event) (es : List Event) (spans left : List Open) (span : Open) (passed : ℕ) → e.kind ≡ Exit → spans ≡ left ++ span ∷ [] → is_same_name span.name e.name ≡ true → (reverse left ≡ [] → ⊥) → AreOpen (reverse spans)
    → (run (e ∷ es) (names_of (reverse spans)) passed ≡ run es (names_of (reverse left)) (passed + 1)) × AreOpen (reverse left)
ended e es spans left span passed exits is same some are =
    let top : reverse spans ≡ span ∷ reverse left = on_top spans left span is in
    let names : List Name = names_of (reverse left) in (
      (λ t. move (exits t) e.name (names_of (reverse spans)) passed (run es))
          ∙ ap (λ (x : List Open). move Exit e.name (names_of x) passed (run es)) top
          ∙ ap (λ (b : Bool). cond b (exited names passed (run es)) None) same
          ∙ goes_on names passed (run es) (λ none. some (no_names (reverse left) none)),
      (subst AreOpen top are).1,
    )

-- a stack that is not empty has a span
pub some_left : (spans : Vec Open Global) → (vec_len spans == 0) ≡ false → reverse spans.items ≡ [] → ⊥
some_left spans more none =
    let zero : vec_len spans ≡ 0 = spans.ok.0 ∙ sym (length-reverse spans.items) ∙ ap (λ (xs : List Open). length xs) none in
    let empty : true ≡ false = sym (eq-eqb (vec_len spans) 0 zero) ∙ more in
    absurd (let w : ⊥ = cc in w)
