use Rattle.std.proofs.Common.{refl, subst, sym, ◌∙◌, ◌≡◌}
use Rattle.std.specs.Prelude.{Result, ◌≢◌}
use Rattle.markdown_events.specs.Forest.{enter, exit}
use Rattle.markdown_events.specs.declared.role.Role.TheVariants.{Significant as significant}
use Rattle.markdown_containers.specs.Containers.{current_model_of}
use Rattle.markdown_containers.specs.ContainerStates.{Stops}
use Rattle.markdown_containers.specs.declared.open_container.OpenContainer.{OpenContainer}
use Rattle.markdown_grammar.specs.Document.{source_of}
use Rattle.markdown_grammar.specs.Grammar.{leaf, model_of}
use Rattle.markdown_grammar.specs.Refusals.{ErrorAt}
use Rattle.markdown_grammar.specs.declared.error_kind.ErrorKind.TheVariants.{Held}
use Rattle.markdown_grammar.specs.declared.error_kind.Stop.TheVariants as stops
use Rattle.markdown_steps.specs.Compiler.{State}
use Rattle.markdown_tree.specs.States.{state_of}
use Rattle.markdown_tree.proofs.Beginnings.{enter_free, enter_held, significant_refused}
use Rattle.markdown_tree.proofs.Building.{first-stops}
use Rattle.markdown_tree.proofs.context.Context.significant_token.Goals as goal

pub returns-then-not-allows : goal.returns-then-not-allows
returns-then-not-allows g c =
    let s = source_of c.args.document.now (g.R.References.text c.args.references.now) in
    let first = enter c.args.name c.args.start.now in
    let second = exit c.args.name c.args.end.now in
    first-stops s first second (state_of c.args.self.now) (stops.Refused Held) c.args.start.now
    (enter_held s c.args.name (significant c.args.what) c.args.start.now c.allows.result c.args.self.now (sym c.requires.role) c.allows.ensures c.if-not-allows.true)

pub returns-in-Some : goal.returns-in-Some
returns-in-Some g c =
    let s = source_of c.args.document.now (g.R.References.text c.args.references.now) in
    let first = enter c.args.name c.args.start.now in
    let second = exit c.args.name c.args.end.now in
    let stopped = subst (λ (r : Result State ErrorAt). Stops (stops.Refused c.in-Some.error_kind) c.args.start.now r) (sym (enter_free s c.args.name (significant c.args.what) c.args.start.now c.allows.result c.args.self.now (sym c.requires.role) c.allows.ensures c.if-not-allows.false))
    (significant_refused s c.args.name c.args.what c.args.start.now c.args.self.now c.in-Some.error_kind (sym (c.misfit.ensures s refl) ∙ c.in-Some.is)) in
    first-stops s first second (state_of c.args.self.now) (stops.Refused c.in-Some.error_kind) c.args.start.now stopped

pub leaf_token-requires-clause-begins : goal.leaf_token-requires-clause-begins
leaf_token-requires-clause-begins g c = sym c.allows.ensures ∙ c.if-not-allows.false

pub leaf_token-requires-clause-opened : goal.leaf_token-requires-clause-opened
leaf_token-requires-clause-opened g c =
    let s = source_of c.args.document.now (g.R.References.text c.args.references.now) in
    record {
      taken = sym (c.misfit.ensures s refl) ∙ c.in_default.is;
      leaf_row = subst (λ (h : OpenContainer). model_of (current_model_of h.container) c.args.what ≡ leaf) c.innermost.ensures (c.takes_as_leaf.ensures.leaf c.if-takes_as_leaf.true);
      same = refl;
    }

pub container_token-requires-clause-begins : goal.container_token-requires-clause-begins
container_token-requires-clause-begins g c = sym c.allows.ensures ∙ c.if-not-allows.false

pub container_token-requires-clause-taken : goal.container_token-requires-clause-taken
container_token-requires-clause-taken g c =
    let s = source_of c.args.document.now (g.R.References.text c.args.references.now) in
    sym (c.misfit.ensures s refl) ∙ c.in_default.is

pub container_token-requires-clause-container : goal.container_token-requires-clause-container
container_token-requires-clause-container g c =
    subst (λ (h : OpenContainer). model_of (current_model_of h.container) c.args.what ≢ leaf) c.innermost.ensures (c.takes_as_leaf.ensures.container c.if-takes_as_leaf.false)
