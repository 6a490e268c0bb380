use Rattle.std.proofs.Common.{Bool, ap, Err, None, Ok, false, refl, subst, sym, ◌∙◌, ◌≡◌}
use Rattle.markdown_events.specs.Forest.{enter, exit}
use Rattle.markdown_events.specs.declared.role.Role.TheVariants.{Significant as significant}
use Rattle.markdown_grammar.specs.Document.{source_of}
use Rattle.markdown_steps.specs.Columns.{child_facts}
use Rattle.markdown_steps.specs.Siblings.{no_marks}
use Rattle.markdown_steps.proofs.Outcomes.{same_name_refl}
use Rattle.markdown_steps.proofs.WellKept.{well-step}
use Rattle.markdown_containers.specs.Containers.{current_model_of, misfit_of}
use Rattle.markdown_containers.specs.declared.open_container.OpenContainer.{OpenContainer}
use Rattle.markdown_grammar.specs.Grammar.{leaf, model_of}
use Rattle.markdown_tree.specs.States.{LeafEnds}
use Rattle.markdown_blocks.specs.Columns.{columns_of}
use Rattle.markdown_parts.specs.Nest.{with_innermost}
use Rattle.markdown_tree.specs.States.{frame_of, kept_top, leaf_place, state_of, state_with}
use Rattle.markdown_tree.proofs.Beginnings.{in_leaf, leaf_begins, leaf_no_table, no_leaf, or_false, unmarked}
use Rattle.markdown_tree.proofs.Building.{run-two, second-stops}
use Rattle.markdown_tree.proofs.Endings.{columns_kept, ends, exit_done, exit_stops, leaf_closed, leaf_gives}
use Rattle.markdown_tree.proofs.context.Context.leaf_token.Goals as goal

pub take_leaf-taken-requires-clause-leaf : goal.take_leaf-taken-requires-clause-leaf
take_leaf-taken-requires-clause-leaf g c =
    let s = source_of c.args.document.now (g.R.References.text c.args.references.now) in
    let old = c.args.self.now in
    let f = frame_of c.args.name c.args.start.now old in
    let inside = in_leaf c.args.what old.in_table unmarked old in
    let begun = leaf_begins s c.args.name c.args.what c.args.start.now old unmarked old.in_table c.requires.role c.requires.begins c.requires.opened refl
    (sym (or_false old.in_table _ (leaf_no_table _ c.args.what c.requires.opened.leaf_row))) in
    let ended : LeafEnds c.args.what inside = ends s inside f (significant c.args.what) (well-step s (enter c.args.name c.args.start.now) (state_of old) (state_with f inside) begun c.requires.well) (sym c.requires.role) in
    subst (λ (h : OpenContainer). model_of (current_model_of h.container) c.args.what ≡ leaf) (sym c.innermost_mut.ensures.value) ended.initial_model

pub take_leaf-taken-requires-clause-fits : goal.take_leaf-taken-requires-clause-fits
take_leaf-taken-requires-clause-fits g c =
    let s = source_of c.args.document.now (g.R.References.text c.args.references.now) in
    let old = c.args.self.now in
    let f = frame_of c.args.name c.args.start.now old in
    let inside = in_leaf c.args.what old.in_table unmarked old in
    let begun = leaf_begins s c.args.name c.args.what c.args.start.now old unmarked old.in_table c.requires.role c.requires.begins c.requires.opened refl
    (sym (or_false old.in_table _ (leaf_no_table _ c.args.what c.requires.opened.leaf_row))) in
    let ended : LeafEnds c.args.what inside = ends s inside f (significant c.args.what) (well-step s (enter c.args.name c.args.start.now) (state_of old) (state_with f inside) begun c.requires.well) (sym c.requires.role) in
    subst (λ (h : OpenContainer). misfit_of h.container c.args.what ≡ None) (sym c.innermost_mut.ensures.value) ended.fits

pub take_leaf-taken-requires-clause-waits : goal.take_leaf-taken-requires-clause-waits
take_leaf-taken-requires-clause-waits g c =
    let s = source_of c.args.document.now (g.R.References.text c.args.references.now) in
    let old = c.args.self.now in
    let f = frame_of c.args.name c.args.start.now old in
    let inside = in_leaf c.args.what old.in_table unmarked old in
    let begun = leaf_begins s c.args.name c.args.what c.args.start.now old unmarked old.in_table c.requires.role c.requires.begins c.requires.opened refl
    (sym (or_false old.in_table _ (leaf_no_table _ c.args.what c.requires.opened.leaf_row))) in
    let ended : LeafEnds c.args.what inside = ends s inside f (significant c.args.what) (well-step s (enter c.args.name c.args.start.now) (state_of old) (state_with f inside) begun c.requires.well) (sym c.requires.role) in
    ended.awaited

pub returns-in-Err : goal.returns-in-Err
returns-in-Err g c =
    let s = source_of c.args.document.now (g.R.References.text c.args.references.now) in
    let old = c.args.self.now in
    let f = frame_of c.args.name c.args.start.now old in
    let inside = in_leaf c.args.what old.in_table unmarked old in
    let begun = leaf_begins s c.args.name c.args.what c.args.start.now old unmarked old.in_table c.requires.role c.requires.begins c.requires.opened refl
    (sym (or_false old.in_table _ (leaf_no_table _ c.args.what c.requires.opened.leaf_row))) in
    let left = leaf_gives s c.args.what f c.args.end.now inside (record inside { containers = with_innermost old.containers c.take_leaf-taken.new.self; is_leaf = false; pending = c.take_leaf-taken.new.pending })
    c.innermost_mut.result.now c.take_leaf-taken.new.self (Err c.in-Err.stop) refl c.innermost_mut.ensures.value refl refl refl
    (c.in-Err.ensures old.in_table (child_facts no_marks (columns_of old.columns)) (leaf_place old.in_table)) in
    second-stops s (enter c.args.name c.args.start.now) (exit c.args.name c.args.end.now) (state_of old) (state_with f inside) c.in-Err.stop c.args.end.now begun
    (exit_stops s c.args.name c.args.end.now inside f (significant c.args.what) c.in-Err.stop (sym c.requires.role) (same_name_refl c.args.name) left)

pub returns : goal.returns
returns g c =
    let s = source_of c.args.document.now (g.R.References.text c.args.references.now) in
    let old = c.args.self.now in
    let f = frame_of c.args.name c.args.start.now old in
    let inside = in_leaf c.args.what old.in_table unmarked old in
    let after = record inside { containers = with_innermost old.containers c.take_leaf-taken.new.self; is_leaf = false; pending = c.take_leaf-taken.new.pending } in
    let begun = leaf_begins s c.args.name c.args.what c.args.start.now old unmarked old.in_table c.requires.role c.requires.begins c.requires.opened refl
    (sym (or_false old.in_table _ (leaf_no_table _ c.args.what c.requires.opened.leaf_row))) in
    let left = leaf_gives s c.args.what f c.args.end.now inside after c.innermost_mut.result.now c.take_leaf-taken.new.self (Ok tt) refl c.innermost_mut.ensures.value refl refl refl
    (c.in_default.ensures old.in_table (child_facts no_marks (columns_of old.columns)) (leaf_place old.in_table)) in
    let closed = leaf_closed c.args.what inside after c.take_leaf-taken.new.self refl refl refl refl refl (columns_kept c.args.what inside after (leaf_no_table _ c.args.what c.requires.opened.leaf_row) refl) in
    run-two s (enter c.args.name c.args.start.now) (exit c.args.name c.args.end.now) (state_of old) (state_with f inside) begun
    ∙ exit_done s c.args.name c.args.end.now inside after f (significant c.args.what) c.add_childless.new.self (sym c.requires.role) (same_name_refl c.args.name) left closed (c.add_childless.ensures c.args.what)
    ∙ ap (λ (b : Bool). Ok (state_of (record after { interior = record { around = old.interior.around; marks = c.add_childless.new.self }; is_leaf = b })))
    (sym (no_leaf s c.args.what c.args.start.now (leaf_place old.in_table) (kept_top old) old.is_leaf c.requires.opened.taken))
