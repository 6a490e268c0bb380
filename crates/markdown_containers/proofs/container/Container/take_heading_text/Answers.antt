use Rattle.std.proofs.Common.{sym, subst}
use Rattle.markdown_events.specs.declared.role.ItemKind.TheVariants.{Part as part}
use Rattle.markdown_events.specs.declared.role.Part.TheVariants as parts
use Rattle.markdown_containers.specs.Containers.{Keeps, summary_with}
use Rattle.markdown_containers.specs.declared.container.Container.{Container}
use Rattle.markdown_containers.specs.declared.container.Container.TheVariants as containers
use Rattle.markdown_containers.proofs.container.Container.take_heading_text.Goals as goal

pub returns : goal.returns
returns c s p a b ts =
    subst (λ (h : Container). Keeps s p (part parts.HeadingSetextText) a b (summary_with containers.AnyContent ts) h (containers.HeadingSetext c.take_text.new.self)) (sym c.in-HeadingSetext.is) (c.take_text.ensures ts s p a b)
