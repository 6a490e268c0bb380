use Rattle.std.proofs.Common.{◌++◌, string_bytes}
use Rattle.tree_forms.proofs.InPieces.{all_written, left_after, more_written}
use Rattle.tree_forms.proofs.written.write_json.Goals as goal

pub pieces-preserved : goal.pieces-preserved
pieces-preserved g c =
    let (done, wrote, is) = c.pieces.invariant in (
      done ++ string_bytes c.next_into.new.piece,
      more_written _ _ _ done _ _ wrote c.in_ok-write_all.ensures.bytes c.as_bytes.ensures.value,
      left_after _ done _ _ _ is c.in_ok-next_into.ensures.text,
    )

pub returns : goal.returns
returns g c =
    let (done, wrote, is) = c.pieces.invariant in
    all_written _ _ _ _ done _ _ wrote is (c.in_ok-next_into.ensures.end c.if-branch.false) c.in_ok-write_all-2.ensures.bytes
