-- What is open after the last event.
use Rattle.std.proofs.Common.{◌≡◌, ◌≢◌, ◌==◌, Bool, true, false, not, List, [], ◌∷◌, length, Option, None, Some, cond, eq-eqb, reverse, refl, sym, ap, ◌∙◌}
use Rattle.std.specs.Prelude.{vec_len}
use Rattle.std.specs.Global.{Vec}
use Rattle.std.proofs.lemmas.Bool.{eqb-true}
use Rattle.std.proofs.lemmas.List.{length-reverse, nil_from_length}
use Rattle.markdown_parts.specs.PartsSoFar.{first_failing}
use Rattle.markdown_tree.specs.States.{opens, state_of, top_of}
use Rattle.markdown_tree.specs.declared.context.Context.{Context}
use Rattle.markdown_tree.specs.declared.context.Frame.{Frame}
use Rattle.markdown_containers.specs.declared.open_container.OpenContainer.{OpenContainer}
use Rattle.markdown_grammar.specs.declared.error_kind.ErrorKind.TheVariants.{Unbalanced, UnfinishedBreak}
use Rattle.markdown_steps.specs.Compiler.{ContainerState, last_checks, no_open_span}

-- no span is open where the stack has no frame
pub pop_none : (fs : List Frame) (kept : Option ContainerState) (hs : List OpenContainer) → no_open_span (opens fs kept hs) ≡ true → fs ≡ []
pop_none [] kept hs h = refl
pop_none (f ∷ fs) kept hs h = let z : ⊥ = cc in absurd z

open_some : (fs : List Frame) (kept : Option ContainerState) (hs : List OpenContainer) → fs ≢ [] → no_open_span (opens fs kept hs) ≡ false
open_some [] kept hs h = absurd (h refl)
open_some (f ∷ fs) kept hs h = refl

pub no_frames : (fs : List Frame) → reverse fs ≡ [] → fs ≡ []
no_frames fs h = nil_from_length fs (sym (length-reverse fs) ∙ ap length h)

pub none_open : (v : Vec Frame) → (vec_len v == 0) ≡ true → v.items ≡ []
none_open v h = nil_from_length v.items (sym v.ok.0 ∙ eqb-true (vec_len v) 0 h)

pub no_open_span_so : (v : Vec Frame) (kept : Option ContainerState) (hs : List OpenContainer) → (vec_len v == 0) ≡ true → no_open_span (opens (reverse v.items) kept hs) ≡ true
no_open_span_so v kept hs h = ap (λ (fs : List Frame). no_open_span (opens (reverse fs) kept hs)) (none_open v h)

pub is_open_so : (v : Vec Frame) (kept : Option ContainerState) (hs : List OpenContainer) → (vec_len v == 0) ≡ false → no_open_span (opens (reverse v.items) kept hs) ≡ false
is_open_so v kept hs h =
    open_some (reverse v.items) kept hs (λ e. let z : (vec_len v == 0) ≡ true = eq-eqb (vec_len v) 0 (v.ok.0 ∙ ap length (no_frames v.items e)) in let wrong : true ≡ false = sym z ∙ h in absurd cc)

-- what is left, by whether a span is open and a break waits
pub left_by : (c : Context) (shut waits : Bool) → no_open_span (state_of c).frames ≡ shut → (top_of c).after_break ≡ waits
    → first_failing (last_checks (state_of c)) ≡ cond shut (cond (not waits) None (Some UnfinishedBreak)) (Some Unbalanced)
left_by c shut waits no_open_span_so waits_so = λ t. cond (no_open_span_so t) (cond (not (waits_so t)) None (Some UnfinishedBreak)) (Some Unbalanced)
