use Rattle.std.proofs.Common.{◌++◌, refl, string_bytes}
use Rattle.event_lines.specs.Written.{written}
use Rattle.tree_forms.proofs.InPieces.{left_after, more_written}
use Rattle.document_forms.proofs.EventLists.{text_written, written_split}
use Rattle.document_forms.proofs.event_list.write_event_list.Goals as goal

pub pieces-preserved : goal.pieces-preserved
pieces-preserved g c =
    let (done, wrote, is) = c.pieces.invariant in
    let piece = written c.split_at.result.0.now in (
      done ++ piece,
      more_written _ _ _ done piece piece wrote (text_written string_bytes c.lines_of.result _ _ piece c.lines_of.ensures c.in_ok-write_text.ensures.text) refl,
      left_after _ done _ piece _ is (written_split c.min.result c.pieces.rest.now _ _ c.split_at.ensures.front c.split_at.ensures.back),
    )
