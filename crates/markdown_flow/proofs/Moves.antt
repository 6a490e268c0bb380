-- A cursor that has moved, one time after the other.
use Rattle.std.proofs.Common.{◌≡◌, ◌<◌, ◌≤◌, ◌∙◌, ◌⊎◌, arith, inl, inr, length, refl}
use Rattle.markdown_flow.specs.Moves.{HasMoved}
use Rattle.markdown_flow.specs.declared.line.Line.{Line}

-- it stays
pub stays : (line : Line) → HasMoved line line
stays line = record { source = refl; start = refl; end = refl; next = refl; order = inr (refl, omega arith) }

-- it moves twice
pub moved_on : (a b c : Line) → HasMoved a b → HasMoved b c → HasMoved a c
moved_on a b c p q = record { source = q.source ∙ p.source; start = q.start ∙ p.start; end = q.end ∙ p.end; next = q.next ∙ p.next; order = by p.order q.order }
  where
    by : (length b.rest.now < length a.rest.now) ⊎ ((length b.rest.now ≡ length a.rest.now) × (a.virtual_spaces ≤ b.virtual_spaces))
        → (length c.rest.now < length b.rest.now) ⊎ ((length c.rest.now ≡ length b.rest.now) × (b.virtual_spaces ≤ c.virtual_spaces))
        → (length c.rest.now < length a.rest.now) ⊎ ((length c.rest.now ≡ length a.rest.now) × (a.virtual_spaces ≤ c.virtual_spaces))
    by (inl x) (inl y) = inl (omega (arith, x, y))
    by (inl x) (inr y) = inl (omega (arith, x, y.0))
    by (inr x) (inl y) = inl (omega (arith, x.0, y))
    by (inr x) (inr y) = inr (y.0 ∙ x.0, omega (arith, x.1, y.1))
