use Rattle.std.proofs.Common.{None, refl}
use Rattle.std.specs.Prelude.{is_some}
use Rattle.markdown_events.specs.Slices.{slice}
use Rattle.markdown_events.specs.declared.role.ItemKind.TheVariants.{Content as content}
use Rattle.markdown_events.specs.declared.role.Content.TheVariants as contents
use Rattle.markdown_grammar.specs.Document.{Source, source_of}
use Rattle.markdown_containers.specs.declared.open_container.OpenContainer.{OpenContainer}
use Rattle.markdown_grammar.specs.declared.error_kind.ErrorKind.TheVariants.{InvalidSlice}
use Rattle.markdown_containers.proofs.LeafEnds.{content_in, leaf_unread}
use Rattle.markdown_containers.proofs.open_container.OpenContainer.take_data.Goals as goal
use Rattle.markdown_containers.proofs.Stopping.{made_gives}

pub returns : goal.returns
returns c text in_table children place =
    let s : Source = (source_of c.args.document.now text) in
    let top : OpenContainer = c.args.self.now in
    made_gives _ c.args.end.now c.put_slice.result (is_some (slice c.args.document.now.bytes c.args.start.now c.args.end.now)) InvalidSlice _ _ c.put_slice.ensures
    (λ x read made. content_in s in_table top (record { container = top.container; line_endings = c.args.self.now.line_endings; nodes = c.put_slice.new.nodes }) contents.Data c.args.start.now c.args.end.now children place refl refl refl made refl read)
    (λ value_error. leaf_unread s in_table None top (content contents.Data) c.args.start.now c.args.end.now children place value_error)
