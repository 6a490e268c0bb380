use Rattle.std.proofs.Common.{ap, true, ◌∙◌, ◌≡◌}
use Rattle.markdown_events.specs.Forest.{enter, exit}
use Rattle.markdown_events.specs.Names.{is_same_name}
use Rattle.markdown_grammar.specs.Document.{source_of}
use Rattle.markdown_steps.proofs.Outcomes.{same_name_refl}
use Rattle.markdown_steps.proofs.WellKept.{well-step}
use Rattle.markdown_tree.specs.States.{state_of, state_with}
use Rattle.markdown_tree.specs.declared.context.Frame.{Frame}
use Rattle.markdown_tree.proofs.Beginnings.{container_begins}
use Rattle.markdown_tree.proofs.Building.{run-two, second-stops}
use Rattle.markdown_tree.proofs.context.Context.container_token.Goals as goal

pub end-requires : goal.end-requires
end-requires g c =
    let s = source_of c.args.document.now (g.R.References.text c.args.references.now) in
    let mid = c.open_container.new.self in
    let new = c.go_inside-frame.new.self in
    let frame = c.go_inside-frame.result in
    let begun = container_begins s c.args.name c.args.what c.args.start.now c.args.self.now mid new frame c.is_in_table-in_table.result c.requires.role c.requires.begins (c.in_default.ensures s c.args.start.now c.requires.taken)
    c.go_inside-frame.ensures.begun c.go_inside-frame.ensures.frame c.is_in_table-in_table.ensures in
    well-step s (enter c.args.name c.args.start.now) (state_of c.args.self.now) (state_with frame new) begun c.requires.well

pub returns-in-Ok : goal.returns-in-Ok
returns-in-Ok g c =
    let s = source_of c.args.document.now (g.R.References.text c.args.references.now) in
    let first = enter c.args.name c.args.start.now in
    let second = exit c.args.name c.args.end.now in
    let mid = c.open_container.new.self in
    let new = c.go_inside-frame.new.self in
    let frame = c.go_inside-frame.result in
    let begun = container_begins s c.args.name c.args.what c.args.start.now c.args.self.now mid new frame c.is_in_table-in_table.result c.requires.role c.requires.begins (c.in_default.ensures s c.args.start.now c.requires.taken)
    c.go_inside-frame.ensures.begun c.go_inside-frame.ensures.frame c.is_in_table-in_table.ensures in
    let same : is_same_name frame.name c.args.name ≡ true = ap (λ (f : Frame). is_same_name f.name c.args.name) c.go_inside-frame.ensures.frame ∙ same_name_refl c.args.name in
    run-two s first second (state_of c.args.self.now) (state_with frame new) begun ∙ c.in-Ok.ensures.gives c.args.name same

pub returns-in-Err-end : goal.returns-in-Err-end
returns-in-Err-end g c =
    let s = source_of c.args.document.now (g.R.References.text c.args.references.now) in
    let first = enter c.args.name c.args.start.now in
    let second = exit c.args.name c.args.end.now in
    let mid = c.open_container.new.self in
    let new = c.go_inside-frame.new.self in
    let frame = c.go_inside-frame.result in
    let begun = container_begins s c.args.name c.args.what c.args.start.now c.args.self.now mid new frame c.is_in_table-in_table.result c.requires.role c.requires.begins (c.in_default.ensures s c.args.start.now c.requires.taken)
    c.go_inside-frame.ensures.begun c.go_inside-frame.ensures.frame c.is_in_table-in_table.ensures in
    let same : is_same_name frame.name c.args.name ≡ true = ap (λ (f : Frame). is_same_name f.name c.args.name) c.go_inside-frame.ensures.frame ∙ same_name_refl c.args.name in
    second-stops s first second (state_of c.args.self.now) (state_with frame new) c.in-Err-end.stop c.args.end.now begun (c.in-Err-end.ensures.gives c.args.name same)
