-- The nodes that one exit visits, and those that a run visits over a prefix of its events.
use Rattle.std.proofs.Common.{◌≡◌, ◌≤◌, ℕ, ◌+◌, Bool, true, false, not, ◌&&◌, cond, List, ◌∷◌, Option, None, Some, Result, Ok, refl, ap, subst, arith}
use Rattle.std.specs.Prelude.{if◌then◌else◌}
use Rattle.markdown_events.specs.declared.event.Event.{Event}
use Rattle.markdown_events.specs.declared.role.ItemKind.{ItemKind}
use Rattle.markdown_nodes.specs.Tree.{Trees, nothing}
use Rattle.markdown_steps.proofs.SummaryLaws.{is-that-part}
use Rattle.markdown_grammar.specs.Buffers.{is_buffer, node_count}
use Rattle.markdown_steps.specs.Compiler.{State, label_with, step}
use Rattle.markdown_grammar.specs.Items.{is_part}
use Rattle.markdown_steps.specs.Summaries.{Summary, PartSummary}
use Rattle.markdown_grammar.specs.Refusals.{ErrorAt}
use Rattle.markdown_grammar.specs.Document.{Source}
use Rattle.markdown_steps.specs.Visits.{reads_label, run_visits, step_visits, visits_at_end, visits_after}
use Rattle.markdown_events.specs.declared.role.Part.TheVariants as parts

-- a label is a buffer
label-buffer : (what : ItemKind) → is_part parts.LabelText what ≡ true → is_buffer what ≡ true
label-buffer what h = subst (λ (w : ItemKind). is_buffer w ≡ true) (is-that-part parts.LabelText what h) refl

-- where a label stood before, or none stands now
walks-kept : (b l r : Bool) (n m : ℕ) → (if b && not l then n else (if r then m else 0)) ≤ m + (if b then n else 0)
walks-kept true true true n m = omega arith
walks-kept true true false n m = omega arith
walks-kept true false r n m = omega arith
walks-kept false l true n m = omega arith
walks-kept false l false n m = omega arith

-- where this is the first label
walks-new : (b l r : Bool) (ts : Trees) (m : ℕ) → (l ≡ true → b ≡ true) → (if b && not l then node_count ts else (if r then m else 0)) + node_count (cond l ts nothing) ≤ m + (if b then node_count ts else 0)
walks-new true true true ts m h = omega arith
walks-new true true false ts m h = omega arith
walks-new true false r ts m h = omega arith
walks-new false true r ts m h = let z : false ≡ true = h refl in absurd cc
walks-new false false true ts m h = omega arith
walks-new false false false ts m h = omega arith

-- what is walked at an exit, and the label kept after it, come from the labels before and from what the span holds as a buffer
pub exit-walks : (what : ItemKind) (i : Summary) (k : Option PartSummary) (old : Trees)
    → visits_at_end what i + node_count (label_with what i.nodes k old) ≤ node_count i.label + node_count old + (if is_buffer what then node_count i.nodes else 0)
exit-walks what i (Some k) old =
    let h = walks-kept (is_buffer what) (is_part parts.LabelText what) (reads_label what) (node_count i.nodes) (node_count i.label) in
    omega (arith, h)
exit-walks what i None old =
    let h = walks-new (is_buffer what) (is_part parts.LabelText what) (reads_label what) i.nodes (node_count i.label) (label-buffer what) in
    omega (arith, h)

-- the steps after one that is taken
pub taken-walks : (s : Source) (e : Event) (es : List Event) (st z : State) → step s e st ≡ Ok z → run_visits s (e ∷ es) st ≡ step_visits e st + run_visits s es z
unfolding run_visits
taken-walks s e es st z h = ap (λ (r : Result State ErrorAt). step_visits e st + visits_after r (run_visits s es)) h

-- the first step, whether it is taken or not
pub first-walks : (s : Source) (e : Event) (es : List Event) (st : State) → step_visits e st ≤ run_visits s (e ∷ es) st
unfolding run_visits
first-walks s e es st = omega arith
