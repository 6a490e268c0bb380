use Rattle.std.proofs.Common.{None, Some, refl, ap, ◌∙◌, arith}
use Rattle.std.specs.Prelude.{is_some}
use Rattle.markdown_events.specs.Slices.{slice}
use Rattle.markdown_events.specs.declared.unist.Position.{Position}
use Rattle.markdown_nodes.specs.Tree.{Tree, join, only}
use Rattle.markdown_nodes.specs.View.{views}
use Rattle.markdown_grammar.specs.Document.{Source, source_of}
use Rattle.markdown_containers.specs.declared.open_container.OpenContainer.{OpenContainer}
use Rattle.markdown_grammar.specs.declared.error_kind.ErrorKind.TheVariants.{InvalidSlice}
use Rattle.markdown_containers.proofs.LeafEnds.{break_ends, known_in, known_unread, nothing_in, text_in, text_unread}
use Rattle.markdown_containers.proofs.open_container.OpenContainer.take_line_ending.Goals as goal
use Rattle.markdown_containers.proofs.Stopping.{made_gives}

pub returns-in-Some : goal.returns-in-Some
returns-in-Some c text in_table children place =
    let s : Source = source_of c.args.document.now text in
    let top : OpenContainer = c.args.self.now in
    let new : OpenContainer = record { container = top.container; line_endings = top.line_endings; nodes = c.put.new.nodes } in
    let here : Position = c.in-Some.position in
    known_in s in_table (Some here) c.args.pending.now c.take.new.self top new c.args.start.now c.args.end.now children place c.in-Some.ensures.value c.in-Some.ensures.after
    (break_ends s in_table here top new c.args.start.now c.args.end.now children place refl refl
    (c.in_ok-put.ensures ∙ ap (λ (t : Tree). join (views top.nodes.items) (only t)) c.hard_break.ensures))

pub returns-then-self : goal.returns-then-self
returns-then-self c text in_table children place =
    let s : Source = source_of c.args.document.now text in
    let top : OpenContainer = c.args.self.now in
    let new : OpenContainer = record { container = top.container; line_endings = top.line_endings; nodes = c.put_line_ending.new.nodes } in
    made_gives _ c.args.end.now c.put_line_ending.result (is_some (slice c.args.document.now.bytes c.args.start.now c.args.end.now)) InvalidSlice _ _ c.put_line_ending.ensures
    (λ x read made. known_in s in_table None c.args.pending.now c.take.new.self top new c.args.start.now c.args.end.now children place c.in_default.ensures.value c.in_default.ensures.after
    (text_in s in_table top new c.args.start.now c.args.end.now children place c.if-self.true refl refl made read))
    (λ value_error. known_unread s in_table None c.args.pending.now top c.args.start.now c.args.end.now children place InvalidSlice c.in_default.ensures.value
    (text_unread s in_table top c.args.start.now c.args.end.now children place c.if-self.true value_error))

pub returns : goal.returns
returns c text in_table children place =
    let s : Source = source_of c.args.document.now text in
    let top : OpenContainer = c.args.self.now in
    known_in s in_table None c.args.pending.now c.take.new.self top top c.args.start.now c.args.end.now children place c.in_default.ensures.value c.in_default.ensures.after
    (nothing_in s in_table top c.args.start.now c.args.end.now children place c.if-self.false)
