use Rattle.std.specs.Vec.{vec_len}
use Rattle.markdown_parts.proofs.Joins.{appended}
use Rattle.markdown_parts.proofs.joining.append.Goals as goal

pub returns : goal.returns
returns c =
    let others = c.args.others.now in
    appended c.args.nodes.now.items c.put_any.new.nodes.items c.append.new.self.items others.items c.remove.new.self.items (vec_len others) (vec_len c.remove.new.self) c.remove.result
    others.ok.0 c.remove.ensures.len c.remove.ensures.value c.remove.ensures.items c.in_ok-put_any.ensures c.in_ok-append.ensures.items
