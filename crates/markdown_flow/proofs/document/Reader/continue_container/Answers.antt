use Rattle.std.proofs.Common.{slice_set, sym}
use Rattle.markdown_flow.proofs.Containers.{alike_set}
use Rattle.markdown_flow.proofs.Readers.{opens_alike}
use Rattle.markdown_flow.proofs.document.Reader.continue_container.Goals as goal

pub returns-then-not-goes_on-clause-opens : goal.returns-then-not-goes_on-clause-opens
returns-then-not-goes_on-clause-opens c =
    opens_alike c.args.self.now (slice_set c.args.self.now.containers.items c.args.number c.continues.new.self)
    (alike_set c.args.self.now.containers.items c.args.number c.index.result.now c.continues.new.self (sym c.index.ensures) c.in_ok-goes_on.ensures.number c.in_ok-goes_on.ensures.spans) c.requires.opens

pub returns-then-matches-clause-opens : goal.returns-then-matches-clause-opens
returns-then-matches-clause-opens c =
    opens_alike c.args.self.now (slice_set c.args.self.now.containers.items c.args.number c.continues.new.self)
    (alike_set c.args.self.now.containers.items c.args.number c.index.result.now c.continues.new.self (sym c.index.ensures) c.in_ok-goes_on.ensures.number c.in_ok-goes_on.ensures.spans) c.requires.opens

pub returns-else-matches-clause-opens : goal.returns-else-matches-clause-opens
returns-else-matches-clause-opens c =
    opens_alike c.args.self.now (slice_set c.args.self.now.containers.items c.args.number c.continues.new.self)
    (alike_set c.args.self.now.containers.items c.args.number c.index.result.now c.continues.new.self (sym c.index.ensures) c.in_ok-goes_on.ensures.number c.in_ok-goes_on.ensures.spans) c.requires.opens
