-- What a span does of which nothing is to be known.
use Rattle.std.proofs.Common.{Bool, List, [], ap, cond, false, refl, sym, ◌+◌, ◌++◌, ◌-◌, ◌≡◌, ℕ}
use Rattle.markdown_events.specs.declared.event.Kind.TheVariants.{Enter, Exit}
use Rattle.markdown_events.specs.declared.event.Name.{Name}
use Rattle.markdown.specs.Hidden.{cell_after, hidden_by, is_label}
use Rattle.markdown.specs.Hiding.{Passes}
use Rattle.markdown.specs.declared.hiding.Hiding.{Hiding}

pub enters : (bytes : List ℕ) (name : Name) (index : ℕ) (old : Hiding) → is_label name ≡ false → cell_after old.cell Enter name index ≡ old.cell → hidden_by bytes old.labels old.cell Enter name index ≡ [] → Passes bytes Enter name index old old
enters bytes name index old label cell none = record {
  cell = sym cell;
  before = λ same. same;
  labels = λ same. sym (ap (λ (b : Bool). cond b (old.labels + 1) old.labels) label);
  expected = λ same. ap (λ (xs : List ℕ). xs ++ old.expected.now) (sym none);
}

pub exits : (bytes : List ℕ) (name : Name) (index : ℕ) (old : Hiding) → is_label name ≡ false → hidden_by bytes old.labels old.cell Exit name index ≡ [] → Passes bytes Exit name index old old
exits bytes name index old label none = record {
  cell = refl;
  before = λ same. same;
  labels = λ same. sym (ap (λ (b : Bool). cond b (old.labels - 1) old.labels) label);
  expected = λ same. ap (λ (xs : List ℕ). xs ++ old.expected.now) (sym none);
}
