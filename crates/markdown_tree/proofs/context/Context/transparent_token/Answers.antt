use Rattle.std.proofs.Common.{sym}
use Rattle.markdown_events.specs.Forest.{enter, exit}
use Rattle.markdown_events.specs.declared.role.Role.TheVariants.{Transparent as transparent}
use Rattle.markdown_grammar.specs.declared.error_kind.ErrorKind.TheVariants.{Held}
use Rattle.markdown_grammar.specs.declared.error_kind.Stop.TheVariants as stops
use Rattle.markdown_tree.specs.States.{state_of}
use Rattle.markdown_tree.proofs.Beginnings.{enter_free, enter_held}
use Rattle.markdown_tree.proofs.Building.{first-stops, token-passed}
use Rattle.markdown_tree.proofs.context.Context.transparent_token.Goals as goal

pub returns-then-not-allows : goal.returns-then-not-allows
returns-then-not-allows c s = first-stops s (enter c.args.name c.args.start.now) (exit c.args.name c.args.end.now) (state_of c.args.self.now) (stops.Refused Held) c.args.start.now
    (enter_held s c.args.name (transparent c.args.kind) c.args.start.now c.allows.result c.args.self.now (sym c.requires) c.allows.ensures c.if-not-allows.true)

pub returns-in-Ok : goal.returns-in-Ok
returns-in-Ok c s = token-passed s c.args.name (transparent c.args.kind) c.args.start.now c.args.end.now c.args.self.now c.pass.new.self c.requires
    (enter_free s c.args.name (transparent c.args.kind) c.args.start.now c.allows.result c.args.self.now (sym c.requires) c.allows.ensures c.if-not-allows.false) c.in-Ok.ensures
