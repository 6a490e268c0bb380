use Rattle.std.proofs.Common.{◌<◌, length, refl, sym, ◌∙◌}
use Rattle.markdown_parts.proofs.Nesting.{last_read, last_written, some_within}
use Rattle.markdown_parts.proofs.nest.Nest.innermost_mut.Goals as goal

pub returns : goal.returns
returns g c =
    let some : 0 < length c.args.self.now.inner.items = some_within c.args.self.now.inner (sym c.if-is_empty.ensures) in (
      (refl, λ w. last_written c.args.self.now.inner.items c.args.self.now c.len-last.result w c.len-last.ensures some),
      record { writes_back = tt; value = last_read c.args.self.now.inner.items c.len-last.result c.index_mut.result.now c.args.self.now.outermost (c.len-last.ensures ∙ c.args.self.now.inner.ok.0) some c.index_mut.ensures.value },
    )
