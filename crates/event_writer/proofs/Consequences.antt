-- What follows of a list that is finished.
use Rattle.std.proofs.Common.{◌≡◌, ◌≤◌, ◌+◌, ◌-◌, ◌⊎◌, inl, inr, Bool, true, false, cond, List, [], ◌∷◌, ◌++◌, length, take, drop, ℕ, Option, None, Some, refl, sym, ap, ◌∙◌, arith}
use Rattle.std.specs.Prelude.{nat_lt, slice_range}
use Rattle.std.proofs.Math.Seq.{take-add}
use Rattle.std.proofs.lemmas.List.{drop-drop}
use Rattle.std.proofs.lemmas.Grind.{common_steps}
use Rattle.std.proofs.lemmas.Bool.Decides.{nat_tests}
use Rattle.markdown_events.specs.Slices.{edge}
use Rattle.markdown_events.specs.declared.event.Event.{Event}
use Rattle.markdown_events.specs.declared.event.Kind.{Kind}
use Rattle.markdown_events.specs.declared.event.Kind.TheVariants.{Enter, Exit}
use Rattle.markdown_events.specs.declared.event.Point.{Point}
use Rattle.markdown_grammar.specs.Correct.{FailsRightly}
use Rattle.markdown_grammar.specs.Document.{Source}
use Rattle.markdown_grammar.specs.Ordered.{NeverGoesBack, RisesFrom}
use Rattle.markdown_events.specs.declared.message.Message.{Message}
use Rattle.markdown_events.specs.declared.message.Fault.TheVariants as faults
use Rattle.event_writer.specs.Finished.{IsFinished}
use Rattle.event_writer.specs.Tilings.{Follows, IsBefore, begun_at, is_enter, origin, token_at, token_bytes, tokens_from}

-- ---- Offsets never go back

steps-up : (at : Point) (entered : Bool) (e : Event) → (e.point ≡ at) ⊎ ((entered ≡ true) × (e.kind ≡ Exit) × IsBefore at e.point) → at.index ≤ e.point.index
steps-up at entered e (inl h) = let i : e.point.index ≡ at.index = ap (λ (p : Point). p.index) h in omega arith
steps-up at entered e (inr h) = by h.2
  where
    by : IsBefore at e.point → at.index ≤ e.point.index
    by (inl k) = omega arith
    by (inr k) = let i = k.0 in omega (arith, i)

rises : (low : ℕ) (at : Point) (entered : Bool) (es : List Event) (to : Point) → low ≤ at.index → Follows at entered es to → RisesFrom low es
rises low at entered [] to h f = tt
rises low at entered (e ∷ es) to h f =
    let u = steps-up at entered e f.0 in
    (omega (arith, u), rises e.point.index e.point (is_enter e.kind) es to (omega arith) f.1)

pub never-goes-back : (s : Source) (es : List Event) → IsFinished s es → NeverGoesBack es
never-goes-back s es h = rises 0 origin false es h.end (omega arith) h.tiles

-- ---- No message comes of it

pub never-refused : (s : Source) (es : List Event) (message : Message) → IsFinished s es → FailsRightly (faults.Message message) es s → ⊥
never-refused s es message h r = (r.is_refused).none_accepted h.forest h.from_events h.accepted

-- ---- The document is its tokens, one after the other

bit : (v : ℕ) → cond (nat_lt 0 v) 1 0 ≤ 1
bit v = by (nat_lt 0 v)
  where
    by : (t : Bool) → cond t 1 0 ≤ 1
    by true = omega arith
    by false = omega arith

bits : (v w : ℕ) → v ≤ w → cond (nat_lt 0 v) 1 0 ≤ cond (nat_lt 0 w) 1 0
bits v w h = grind (arith, nat_tests)

edge-up : (a b : Point) → IsBefore a b → edge a ≤ edge b
edge-up a b (inl h) = let v = bit a.vs in omega (arith, v)
edge-up a b (inr h) = let v = bits a.vs b.vs h.1 in let i = h.0 in omega (arith, v, i)

edge-step : (at : Point) (entered : Bool) (e : Event) → (e.point ≡ at) ⊎ ((entered ≡ true) × (e.kind ≡ Exit) × IsBefore at e.point) → edge at ≤ edge e.point
edge-step at entered e (inl h) = let i : edge e.point ≡ edge at = ap edge h in omega (arith, i)
edge-step at entered e (inr h) = edge-up at e.point h.2

rise-edges : (at : Point) (entered : Bool) (es : List Event) (to : Point) → Follows at entered es to → edge at ≤ edge to
rise-edges at entered [] to f = let e : edge at ≡ edge to = ap edge f in omega (arith, e)
rise-edges at entered (e ∷ es) to f =
    let u = edge-step at entered e f.0 in
    let v = rise-edges e.point (is_enter e.kind) es to f.1 in
    omega (arith, u, v)

none-between : (bytes : List ℕ) (i : ℕ) → slice_range bytes i i ≡ []
none-between bytes i = let z : i - i ≡ 0 = omega arith in ap (λ (n : ℕ). take n (drop i bytes)) z

joined : (bytes : List ℕ) (i j k : ℕ) → i ≤ j → j ≤ k → slice_range bytes i j ++ slice_range bytes j k ≡ slice_range bytes i k
joined bytes i j k h m =
    let l : i + (j - i) ≡ j = omega arith in
    let n : (j - i) + (k - j) ≡ k - i = omega arith in
    ap (λ (x : List ℕ). slice_range bytes i j ++ take (k - j) x) (sym (drop-drop (j - i) i bytes ∙ ap (λ (x : ℕ). drop x bytes) l))
    ∙ sym (take-add (j - i) (k - j) (drop i bytes))
    ∙ ap (λ (x : ℕ). take x (drop i bytes)) n

-- where the last event was an enter
abbrev last_enter : Bool → Point → Option Point
last_enter true at = Some at
last_enter false at = None

-- a token's bytes are those from the point before it
token-is : (bytes : List ℕ) (at : Point) (entered : Bool) (k : Kind) (p : Point) → (p ≡ at) ⊎ ((entered ≡ true) × (k ≡ Exit) × IsBefore at p) → token_at bytes (last_enter entered at) k p ≡ slice_range bytes (edge at) (edge p)
token-is bytes at true Exit p h = refl
token-is bytes at true Enter p (inl h) = sym (ap (λ (x : Point). slice_range bytes (edge at) (edge x)) h ∙ none-between bytes (edge at))
token-is bytes at true Enter p (inr h) = let wrong : Enter ≡ Exit = h.1 in absurd cc
token-is bytes at false k p (inl h) = none k ∙ sym (ap (λ (x : Point). slice_range bytes (edge at) (edge x)) h ∙ none-between bytes (edge at))
  where
    none : (k : Kind) → token_at bytes None k p ≡ []
    none Enter = refl
    none Exit = refl
token-is bytes at false k p (inr h) = let wrong : false ≡ true = h.0 in absurd cc

begun-is : (e : Event) → begun_at e ≡ last_enter (is_enter e.kind) e.point
begun-is e = by (is_enter e.kind)
  where
    by : (t : Bool) → cond t (Some e.point) None ≡ last_enter t e.point
    by true = refl
    by false = refl

tokens-are : (bytes : List ℕ) (at : Point) (entered : Bool) (es : List Event) (to : Point) → Follows at entered es to → tokens_from bytes (last_enter entered at) es ≡ slice_range bytes (edge at) (edge to)
tokens-are bytes at entered [] to f = sym (ap (λ (x : Point). slice_range bytes (edge at) (edge x)) (sym f) ∙ none-between bytes (edge at))
tokens-are bytes at entered (e ∷ es) to f =
    let rest : tokens_from bytes (begun_at e) es ≡ slice_range bytes (edge e.point) (edge to) = ap (λ (o : Option Point). tokens_from bytes o es) (begun-is e) ∙ tokens-are bytes e.point (is_enter e.kind) es to f.1 in
    (λ t. token-is bytes at entered e.kind e.point f.0 t ++ rest t)
    ∙ joined bytes (edge at) (edge e.point) (edge to) (edge-step at entered e f.0) (rise-edges e.point (is_enter e.kind) es to f.1)

whole-range : (bytes : List ℕ) (n : ℕ) → length bytes ≤ n → slice_range bytes 0 n ≡ bytes
whole-range bytes n h = grind (arith, common_steps)

pub tokens-are-all : (s : Source) (es : List Event) → IsFinished s es → token_bytes s.bytes es ≡ s.bytes
tokens-are-all s es h =
    let w = h.whole in
    tokens-are s.bytes origin false es h.end h.tiles ∙ whole-range s.bytes (edge h.end) (omega (arith, w))
