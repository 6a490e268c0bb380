-- Events are those of at most one forest.
use Rattle.std.proofs.Common.{◌≡◌, List, [], ◌∷◌, ◌++◌, refl, sym, ap, subst, ◌∙◌, append_assoc}
use Rattle.std.proofs.lemmas.List.{append-nil}
use Rattle.markdown_events.specs.declared.event.Event.{Event}
use Rattle.markdown_events.specs.declared.event.Kind.TheVariants.{Enter, Exit}
use Rattle.markdown_events.specs.Forest.{Forest, empty, span, events_of, enter, exit}

-- no span begins here
StartsNone : List Event → Type 0
StartsNone [] = Unit {0}
StartsNone (e ∷ es) = e.kind ≡ Exit

same_spelling : (f g : Forest) (x y : List Event) → StartsNone x → StartsNone y → events_of f ++ x ≡ events_of g ++ y → (f ≡ g) × (x ≡ y)
unfolding StartsNone
same_spelling empty empty x y p q h = (refl, h)
same_spelling empty (span n s e c r) x y p q h = let wrong : Enter ≡ Exit = subst StartsNone h p in absurd cc
same_spelling (span n s e c r) empty x y p q h = let wrong : Enter ≡ Exit = subst StartsNone (sym h) q in absurd cc
same_spelling (span n s e c r) (span m t d b k) x y p q h =
    let tails : (events_of c ++ (exit n e ∷ events_of r)) ++ x ≡ (events_of b ++ (exit m d ∷ events_of k)) ++ y = cc in
    let inside = same_spelling c b (exit n e ∷ (events_of r ++ x)) (exit m d ∷ (events_of k ++ y)) refl refl (sym (append_assoc (events_of c) (exit n e ∷ events_of r) x) ∙ tails ∙ append_assoc (events_of b) (exit m d ∷ events_of k) y) in
    let rest : events_of r ++ x ≡ events_of k ++ y = cc in
    let after = same_spelling r k x y p q rest in
    let first : enter n s ≡ enter m t = cc in
    let last : exit n e ≡ exit m d = cc in
    let names = ap (λ (v : Event). v.name) first in
    let starts = ap (λ (v : Event). v.point) first in
    let ends = ap (λ (v : Event). v.point) last in
    (cc, after.1)

pub one_forest : (f g : Forest) → events_of f ≡ events_of g → f ≡ g
unfolding StartsNone
one_forest f g h = (same_spelling f g [] [] tt tt (append-nil (events_of f) ∙ h ∙ sym (append-nil (events_of g)))).0
