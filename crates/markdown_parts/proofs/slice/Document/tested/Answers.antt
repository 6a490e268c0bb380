use Rattle.std.proofs.Common.{◌≤◌, length, sym, subst, ap, ◌∙◌}
use Rattle.std.specs.Prelude.{option_copied}
use Rattle.markdown_grammar.specs.Document.{Given}
use Rattle.markdown_parts.proofs.SliceReads.{read_is}
use Rattle.markdown_parts.proofs.slice.Document.tested.Goals as goal

pub returns : goal.returns
returns c =
    rw (← c.self.view_is) (ap option_copied c.ok.ensures.value
    ∙ read_is c.self.inside.bytes.now c.args.from c.args.to c.from_utf8.result _ c.requires.order
    (subst (λ (given : Given). c.args.to ≤ length given.bytes) (sym c.self.view_is) c.requires.within) c.from_utf8.ensures.cases)
