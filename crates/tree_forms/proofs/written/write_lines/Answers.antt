use Rattle.std.proofs.Common.{◌++◌, string_bytes}
use Rattle.tree_forms.proofs.InPieces.{more_written}
use Rattle.tree_forms.proofs.written.write_lines.Goals as goal

pub pieces-preserved : goal.pieces-preserved
pieces-preserved g c =
    let (done, wrote) = c.pieces.invariant in (
      done ++ string_bytes c.next_into.new.piece,
      more_written _ _ _ done _ _ wrote c.in_ok-write_all.ensures.bytes c.as_bytes.ensures.value,
    )
